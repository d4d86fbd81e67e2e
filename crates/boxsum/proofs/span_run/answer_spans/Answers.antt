use Rattle.std.proofs.Common.{◌≡◌, ℕ, sym, ap, subst}
use Rattle.bw_types.specs.History.{History}
use Rattle.bw_types.specs.declared.params.Params.{Params}
use Rattle.page_disk.specs.declared.disk.Disk.{Ghosts}
use Rattle.dom_index.specs.declared.index.DomIndex.{Ghosts as IndexGhosts}
use Rattle.row_machine.specs.Answering.{AnswersLines}
use Rattle.span_planes.specs.Desk.{StandsFor, spans_of}
use Rattle.span_planes.specs.Shown.{HoldsSpans, disk_in}
use Rattle.span_planes.specs.SpanRows.{span_line_cost, span_reply}
use Rattle.span_planes.specs.declared.desk.SpanDesk.{SpanDesk}
use Rattle.span_planes.specs.declared.spans.Spans.{Spans}
use Rattle.boxsum.proofs.span_run.answer_spans.Goals as goal

-- a desk over spans answers by what these hold
stands_over : {E X : Type 0} (g : Ghosts E) (i : IndexGhosts X) (desk : SpanDesk E X g i) (spans : Spans E X g i) (params : Params) (h : History) → spans_of desk ≡ spans
    → HoldsSpans g i (disk_in spans) params h → StandsFor g i desk (record { params = params; history = h })
stands_over {E} {X} g i desk spans params h is held = subst (λ (w : Spans E X g i). HoldsSpans g i (disk_in w) params h) (sym is) held

pub returns-clause-answers : goal.returns-clause-answers
returns-clause-answers g c = λ told params h held.
    let reply = span_reply params h in
    let cost = span_line_cost g.X.DomIndex.cost params h in
    let ending = c.answer_lines-ending in
    let answers = ending.ensures.answers told (record { params = params; history = h }) (stands_over g.E.Disk g.X.DomIndex c.new-desk.result c.args.spans params h c.new-desk.ensures held) in
    subst (λ (n : ℕ). AnswersLines reply cost (g.K.Sink.tells c.args.sink.now) (g.K.Sink.tells ending.new.sink) (g.S.Source.tells ending.new.source)
    (g.S.Source.left c.args.source.now) (g.S.Source.left ending.new.source) ending.result (g.K.Sink.written c.args.sink.now) (g.K.Sink.written ending.new.sink)
    n (g.E.Disk.reads (disk_in c.into_spans.result)))
    (ap (λ w. g.E.Disk.reads (disk_in w)) c.new-desk.ensures)
    (subst (λ (n : ℕ). AnswersLines reply cost (g.K.Sink.tells c.args.sink.now) (g.K.Sink.tells ending.new.sink) (g.S.Source.tells ending.new.source)
    (g.S.Source.left c.args.source.now) (g.S.Source.left ending.new.source) ending.result (g.K.Sink.written c.args.sink.now) (g.K.Sink.written ending.new.sink)
    (g.E.Disk.reads (disk_in (spans_of c.new-desk.result))) n)
    (ap (λ w. g.E.Disk.reads (disk_in w)) (sym c.into_spans.ensures)) answers)

pub returns-clause-sound : goal.returns-clause-sound
returns-clause-sound g c = λ params h page held.
    c.answer_lines-ending.ensures.sound (record { params = params; history = h }) page
    (stands_over g.E.Disk g.X.DomIndex c.new-desk.result c.args.spans params h c.new-desk.ensures held)
