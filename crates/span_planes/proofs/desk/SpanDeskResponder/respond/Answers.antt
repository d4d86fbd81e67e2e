use Rattle.std.proofs.Common.{◌∙◌, ◌++◌, Option, ap, sym, arith}
use Rattle.std.proofs.lemmas.Result.{on_ok_weaker}
use Rattle.span_planes.specs.SpanRows.{reply_to_row, row_cost}
use Rattle.span_planes.specs.declared.asked.SpanRow.{SpanRow}
use Rattle.span_planes.proofs.RowAnswers.{row_asked}
use Rattle.span_planes.proofs.desk.SpanDeskResponder.respond.Goals as goal

pub returns-in-None-clause-replies : goal.returns-in-None-clause-replies
returns-in-None-clause-replies g c =
    on_ok_weaker c.put_reply.result (λ put told stands.
    let asked = sym c.in-None.is ∙ row_asked c.params-params.result told.params c.args.line.now c.in-Ok.row (c.params-params.ensures.held told.params told.history stands) c.in-Ok.ensures.read in
    put ∙ ap (λ (row : Option SpanRow). c.args.replies.now.items ++ reply_to_row told.params told.history c.args.number row) asked) c.put_reply.ensures.put

pub returns-in-Some-clause-replies : goal.returns-in-Some-clause-replies
returns-in-Some-clause-replies g c =
    on_ok_weaker c.answer_row.result (λ said told stands.
    let asked = sym c.in-Some.is ∙ row_asked c.params-params.result told.params c.args.line.now c.in-Ok.row (c.params-params.ensures.held told.params told.history stands) c.in-Ok.ensures.read in
    said told.params told.history stands ∙ ap (λ (row : Option SpanRow). c.args.replies.now.items ++ reply_to_row told.params told.history c.args.number row) asked) c.answer_row.ensures.replies

pub returns-in-Some-clause-sound : goal.returns-in-Some-clause-sound
returns-in-Some-clause-sound g c = λ told page stands. c.answer_row.ensures.sound told.params told.history page stands

pub returns-in-Some-clause-reads : goal.returns-in-Some-clause-reads
returns-in-Some-clause-reads g c = λ told stands.
    let asked = sym c.in-Some.is ∙ row_asked c.params-params.result told.params c.args.line.now c.in-Ok.row (c.params-params.ensures.held told.params told.history stands) c.in-Ok.ensures.read in
    let same = ap (λ (row : Option SpanRow). row_cost g.X.DomIndex.cost told.params told.history row) asked in
    let read = c.answer_row.ensures.reads told.params told.history stands in
    omega (arith, same, read)
