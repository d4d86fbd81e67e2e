use Rattle.std.proofs.Common.{◌≡◌, ◌∙◌, ℕ, List, ◌++◌, ap, subst, true, Err}
use Rattle.ports.specs.Written.{WritesPart}
use Rattle.row_machine.proofs.Going.{input_passes}
use Rattle.row_machine.proofs.LineAfterLine.{AnswerLaws, answering_ends, answering_first, answering_on, answering_put, answering_sound, answering_stops}
use Rattle.row_machine.proofs.Served.{LineLaws}
use Rattle.row_machine.proofs.answering.running.answer_lines.Goals as goal

pub loop-alloc-init : goal.loop-alloc-init
loop-alloc-init g c =
    let laws : AnswerLaws g.R.Responder = record { same = c.respond_laws.ensures.same; twice = c.respond_laws.ensures.twice; stands = c.respond_laws.ensures.stands } in
    answering_first g.R.Responder laws _ _ _ _ _ c.new-reader.ensures c.new-outbox.ensures.empty

pub loop-alloc-preserved : goal.loop-alloc-preserved
loop-alloc-preserved g c =
    let lines_laws : LineLaws = record { join = c.lines_join.ensures; whole = c.whole_joins.ensures; passed = c.whole_part_of_passed.ensures } in
    let laws : AnswerLaws g.R.Responder = record { same = c.respond_laws.ensures.same; twice = c.respond_laws.ensures.twice; stands = c.respond_laws.ensures.stands } in
    let put : c.put_due.result ≡ true = c.if-not-put_due.false in
    answering_on g.R.Responder lines_laws laws _ _ _ _ _ _ _ _ _ _ _ _ _
    (answering_put g.R.Responder _ _ _ _ _ _ _ _ _ _ _ c.loop-alloc.invariant
    (record { faults = c.put_due.ensures.calm put; tells = c.put_due.ensures.tells put })
    (c.put_due.ensures.more put) (c.put_due.ensures.same put))
    c.answer_line.ensures.limit c.in-Ok.ensures.goes_on
    (record { faults = c.in-Ok.ensures.source.0; tells = c.in-Ok.ensures.source.1 })
    c.answer_line.ensures.kept c.answer_line.ensures.faults
    c.answer_line.ensures.seen_end
    (λ e. ((c.answer_line.ensures.stays e).0, ap g.S.Source.left (c.answer_line.ensures.stays e).1))
    c.answer_line.ensures.counts
    c.in-Ok.ensures.answers

pub returns-then-not-put_due-clause-answers : goal.returns-then-not-put_due-clause-answers
returns-then-not-put_due-clause-answers g c =
    let lines_laws : LineLaws = record { join = c.lines_join.ensures; whole = c.whole_joins.ensures; passed = c.whole_part_of_passed.ensures } in
    answering_stops g.R.Responder lines_laws _ _ _ _ _ _ _ _ _ _ _ c.loop-alloc.invariant (c.put_due.ensures.part c.if-not-put_due.true)

pub returns-in-Err-clause-answers : goal.returns-in-Err-clause-answers
returns-in-Err-clause-answers g c =
    let lines_laws : LineLaws = record { join = c.lines_join.ensures; whole = c.whole_joins.ensures; passed = c.whole_part_of_passed.ensures } in
    let laws : AnswerLaws g.R.Responder = record { same = c.respond_laws.ensures.same; twice = c.respond_laws.ensures.twice; stands = c.respond_laws.ensures.stands } in
    let put : c.put_due.result ≡ true = c.if-not-put_due.false in
    answering_ends g.R.Responder lines_laws laws _ _ _ _ _
    (record { tells = g.S.Source.tells c.answer_line.new.source; bytes = g.S.Source.left c.answer_line.new.source; faults = g.S.Source.faults c.answer_line.new.source })
    _ _ _ _ c.answer_line.new.reader _ _ _ c.in-Err.ending c.put_last.result
    (answering_put g.R.Responder _ _ _ _ _ _ _ _ _ _ _ c.loop-alloc.invariant
    (record { faults = c.put_due.ensures.calm put; tells = c.put_due.ensures.tells put })
    (c.put_due.ensures.more put) (c.put_due.ensures.same put))
    c.put_last.ensures.ending c.in-Err.ensures.ended c.in-Err.ensures.between
    (λ e told. ((c.in-Err.ensures.end e).1 told).1)
    (input_passes c.in-Err.ending (λ e told still. ((c.in-Err.ensures.read_fault e).0, (c.in-Err.ensures.read_fault e).2 told still))
    (λ taken e told still. ((c.in-Err.ensures.input_limit taken e).0, ((c.in-Err.ensures.input_limit taken e).3 told).1)))
    c.in-Err.ensures.begins
    c.answer_line.ensures.seen_end
    (λ e. ((c.answer_line.ensures.stays e).0, ap g.S.Source.left (c.answer_line.ensures.stays e).1))
    (λ e. (c.in-Err.ensures.end e).0)
    (λ told still. subst (λ (text : List ℕ). WritesPart (g.K.Sink.written c.put_due.new.sink) (g.K.Sink.written c.put_last.new.sink) text) c.in-Err.ensures.unsaid (c.put_last.ensures.part told still))
    (λ flushed told. c.put_last.ensures.flushed flushed told ∙ ap (λ (text : List ℕ). g.K.Sink.written c.put_due.new.sink ++ text) c.in-Err.ensures.unsaid)

pub returns-in-Err-clause-sound : goal.returns-in-Err-clause-sound
returns-in-Err-clause-sound g c =
    let laws : AnswerLaws g.R.Responder = record { same = c.respond_laws.ensures.same; twice = c.respond_laws.ensures.twice; stands = c.respond_laws.ensures.stands } in
    answering_sound g.R.Responder laws _ _ _ _ _ _ _ _ _ c.in-Err.ending c.put_last.result c.loop-alloc.invariant c.put_last.ensures.ending
    (λ facts page stands e. c.in-Err.ensures.sound facts page stands (ap Err e))
