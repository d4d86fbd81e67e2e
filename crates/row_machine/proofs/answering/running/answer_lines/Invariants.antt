use Rattle.std.proofs.Common.{◌-◌, ◌+◌}
use Rattle.row_machine.specs.declared.serving.TheConstants.{INPUT_LIMIT}
use Rattle.row_machine.specs.Outbox.{gathered}
use Rattle.row_machine.proofs.LineAfterLine.{Answering}
use Rattle.row_machine.proofs.answering.running.answer_lines.Given as goal

abbrev pub invariant-loop-alloc : goal.invariant-loop-alloc
invariant-loop-alloc g l = Answering g.R.Responder l.fn.responder l.responder
    (record { tells = g.S.Source.tells l.fn.source; bytes = g.S.Source.left l.fn.source; faults = g.S.Source.faults l.fn.source })
    (record { tells = g.S.Source.tells l.source; bytes = g.S.Source.left l.source; faults = g.S.Source.faults l.source })
    (record { tells = g.K.Sink.tells l.fn.sink; bytes = g.K.Sink.written l.fn.sink; faults = g.K.Sink.faults l.fn.sink })
    (record { tells = g.K.Sink.tells l.sink; bytes = g.K.Sink.written l.sink; faults = g.K.Sink.faults l.sink })
    (gathered l.outbox) l.reader l.number

abbrev pub decreases-loop-alloc : goal.decreases-loop-alloc
decreases-loop-alloc g l = INPUT_LIMIT + 2 - l.number
