use Rattle.cut_parts.proofs.Holding.{is_page, put_cuts}
use Rattle.cut_parts.proofs.putting.put_cuts.Goals as goal

pub put_written-requires-clause-rules : goal.put_written-requires-clause-rules
put_written-requires-clause-rules g c = is_page c.args.cuts.now c.requires.nodes c.requires.many.0 c.requires.many.1

pub returns-clause-put : goal.returns-clause-put
returns-clause-put g c =
    put_cuts c.put_written.result (g.S.Pages.tells c.args.stage.now) (g.S.Pages.map c.args.stage.now) (g.S.Pages.map c.put_written.new.stage) c.args.page c.args.cuts.now
    c.requires.nodes c.requires.many.0 c.requires.many.1 c.put_written.ensures.ok
