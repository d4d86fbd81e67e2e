use Rattle.row_machine.proofs.Lined.{done_no_fault, done_no_limit, none_left, text_line, text_breaks, text_commits, long_line, long_breaks, done_within, ends_within_line, never_between, never_fine, never_limit, never_read_fault}
use Rattle.row_machine.proofs.Long.{long_served, bad_lasts}
use Rattle.row_machine.proofs.serving.serve_line.Goals as goal

pub returns-in-Text-clause-served : goal.returns-in-Text-clause-served
returns-in-Text-clause-served g c = text_line g.H.House (g.S.Source.tells c.args.source.now) c.args.desk.now.params c.args.number _ _ _ c.args.desk.now _ _ _ _ c.text.result.now _ c.serve_text.result c.text.ensures c.in-Text.ensures.line c.serve_text.ensures.serves

pub returns-in-Text-clause-commits : goal.returns-in-Text-clause-commits
returns-in-Text-clause-commits g c = text_commits g.H.House (g.S.Source.tells c.args.source.now) c.args.desk.now.params c.args.number _ _ _ c.args.desk.now _ _ _ c.serve_text.new.outbox.is_urgent c.text.result.now _ c.serve_text.result c.text.ensures c.in-Text.ensures.line c.serve_text.ensures.commits

pub returns-in-Text-clause-breaks : goal.returns-in-Text-clause-breaks
returns-in-Text-clause-breaks g c = text_breaks g.H.House (g.S.Source.tells c.args.source.now) c.args.desk.now.params c.args.number _ _ _ c.args.desk.now _ _ _ _ c.text.result.now _ c.serve_text.result c.text.ensures c.in-Text.ensures.stops c.in-Text.ensures.line c.serve_text.ensures.serves

pub returns-in-Text-clause-ended : goal.returns-in-Text-clause-ended
returns-in-Text-clause-ended g c = ends_within_line c.serve_text.result c.serve_text.ensures.within

pub returns-in-Text-clause-between : goal.returns-in-Text-clause-between
returns-in-Text-clause-between g c = never_between _ c.serve_text.result c.serve_text.ensures.within

pub returns-in-Text-clause-end : goal.returns-in-Text-clause-end
returns-in-Text-clause-end g c = never_fine _ c.serve_text.result c.serve_text.ensures.within

pub returns-in-Text-clause-read_fault : goal.returns-in-Text-clause-read_fault
returns-in-Text-clause-read_fault g c = never_read_fault _ c.serve_text.result c.serve_text.ensures.within

pub returns-in-Text-clause-input_limit : goal.returns-in-Text-clause-input_limit
returns-in-Text-clause-input_limit g c = never_limit _ c.serve_text.result c.serve_text.ensures.within

pub returns-in-Long-clause-served : goal.returns-in-Long-clause-served
returns-in-Long-clause-served g c = long_line g.H.House (g.S.Source.tells c.args.source.now) c.args.desk.now.params c.args.number _ _ _ c.args.desk.now _ _ _ _ _ c.done.result c.in-Long.ensures.line (long_served g.H.House c.args.number c.args.desk.now _ _ _ _ c.done.result c.done.ensures.gathers c.done.ensures.urgent c.done.ensures.ended)

pub returns-in-Long-clause-breaks : goal.returns-in-Long-clause-breaks
returns-in-Long-clause-breaks g c = long_breaks g.H.House (g.S.Source.tells c.args.source.now) c.args.desk.now.params c.args.number _ _ _ c.args.desk.now _ _ _ _ _ c.done.result c.in-Long.ensures.stops c.in-Long.ensures.line (long_served g.H.House c.args.number c.args.desk.now _ _ _ _ c.done.result c.done.ensures.gathers c.done.ensures.urgent c.done.ensures.ended)

pub returns-in-Long-clause-lasts : goal.returns-in-Long-clause-lasts
returns-in-Long-clause-lasts g c = bad_lasts g.H.House c.args.number c.args.desk.now _ _ _ _ c.done.result c.done.ensures.gathers c.done.ensures.urgent c.done.ensures.ended

pub returns-in-Long-clause-ended : goal.returns-in-Long-clause-ended
returns-in-Long-clause-ended g c = ends_within_line c.done.result (done_within c.done.result c.done.ensures.ended)

pub returns-in-Long-clause-between : goal.returns-in-Long-clause-between
returns-in-Long-clause-between g c = never_between _ c.done.result (done_within c.done.result c.done.ensures.ended)

pub returns-in-Long-clause-end : goal.returns-in-Long-clause-end
returns-in-Long-clause-end g c = never_fine _ c.done.result (done_within c.done.result c.done.ensures.ended)

pub returns-in-Long-clause-read_fault : goal.returns-in-Long-clause-read_fault
returns-in-Long-clause-read_fault g c = never_read_fault _ c.done.result (done_within c.done.result c.done.ensures.ended)

pub returns-in-Long-clause-input_limit : goal.returns-in-Long-clause-input_limit
returns-in-Long-clause-input_limit g c = never_limit _ c.done.result (done_within c.done.result c.done.ensures.ended)

pub returns-in-Long-clause-commits : goal.returns-in-Long-clause-commits
returns-in-Long-clause-commits g c = none_left _ c.done.result c.done.ensures.served

pub returns-in-Long-clause-disk_fault : goal.returns-in-Long-clause-disk_fault
returns-in-Long-clause-disk_fault g c = done_no_fault _ c.done.result c.done.ensures.ended

pub returns-in-Long-clause-at_limit : goal.returns-in-Long-clause-at_limit
returns-in-Long-clause-at_limit g c = done_no_limit _ c.done.result c.done.ensures.ended
