use Rattle.std.proofs.Common.{◌≡◌, ◌-◌, ◌+◌, false}
use Rattle.row_machine.specs.declared.serving.TheConstants.{INPUT_LIMIT}
use Rattle.row_machine.specs.Outbox.{gathered}
use Rattle.row_machine.proofs.Going.{Going}
use Rattle.row_machine.proofs.serving.serve.Given as goal

abbrev pub invariant-lines : goal.invariant-lines
invariant-lines g l = Going g.H.House l.fn.desk l.desk
    (record { tells = g.S.Source.tells l.fn.source; bytes = g.S.Source.left l.fn.source; faults = g.S.Source.faults l.fn.source })
    (record { tells = g.S.Source.tells l.source; bytes = g.S.Source.left l.source; faults = g.S.Source.faults l.source })
    (record { tells = g.K.Sink.tells l.fn.sink; bytes = g.K.Sink.written l.fn.sink; faults = g.K.Sink.faults l.fn.sink })
    (record { tells = g.K.Sink.tells l.sink; bytes = g.K.Sink.written l.sink; faults = g.K.Sink.faults l.sink })
    (gathered l.outbox) (l.outbox.is_urgent ≡ false) l.reader l.number

abbrev pub decreases-lines : goal.decreases-lines
decreases-lines g l = INPUT_LIMIT + 2 - l.number
