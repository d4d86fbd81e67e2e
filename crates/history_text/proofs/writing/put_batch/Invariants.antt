use Rattle.std.proofs.Common.{length, map}
use Rattle.page_warehouse.specs.Events.{change_in}
use Rattle.history_text.specs.Given.{standing}
use Rattle.history_text.specs.Rows.{batch_text}
use Rattle.history_text.proofs.Gathered.{Amid}
use Rattle.history_text.proofs.writing.put_batch.Given as goal

abbrev pub invariant-loop-later : goal.invariant-loop-later
invariant-loop-later g l = Amid
    (standing (g.K.Sink.tells l.fn.sink) (g.K.Sink.written l.fn.sink) (g.K.Sink.faults l.fn.sink) l.fn.room.items)
    (standing (g.K.Sink.tells l.sink) (g.K.Sink.written l.sink) (g.K.Sink.faults l.sink) l.room.items)
    (batch_text l.fn.params (map change_in l.fn.events))
    (batch_text l.params (map change_in l.later))

abbrev pub decreases-loop-later : goal.decreases-loop-later
decreases-loop-later g l = length l.later
