use Rattle.std.proofs.Common.{◌+◌, ◌-◌}
use Rattle.page_warehouse.specs.Batches.{batches_from}
use Rattle.history_text.specs.Given.{standing}
use Rattle.history_text.specs.Rows.{rows_of}
use Rattle.history_text.proofs.Gathered.{Amid}
use Rattle.history_text.proofs.writing.put_batches.Given as goal

abbrev pub invariant-loop-before : goal.invariant-loop-before
invariant-loop-before g l = Amid
    (standing (g.K.Sink.tells l.fn.sink) (g.K.Sink.written l.fn.sink) (g.K.Sink.faults l.fn.sink) l.fn.room.items)
    (standing (g.K.Sink.tells l.sink) (g.K.Sink.written l.sink) (g.K.Sink.faults l.sink) l.room.items)
    (rows_of l.fn.params (batches_from 1 l.fn.last l.fn.events))
    (rows_of l.params (batches_from (l.before + 1) (l.last - l.before) l.later))
