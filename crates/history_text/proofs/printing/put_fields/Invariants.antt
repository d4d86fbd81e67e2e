use Rattle.std.proofs.Common.{drop}
use Rattle.std.specs.List.{flat_map}
use Rattle.history_text.specs.Given.{standing}
use Rattle.history_text.specs.Rows.{field}
use Rattle.history_text.proofs.Gathered.{Amid}
use Rattle.history_text.proofs.printing.put_fields.Given as goal

abbrev pub invariant-loop-number : goal.invariant-loop-number
invariant-loop-number g l = Amid
    (standing (g.K.Sink.tells l.fn.sink) (g.K.Sink.written l.fn.sink) (g.K.Sink.faults l.fn.sink) l.fn.room.items)
    (standing (g.K.Sink.tells l.sink) (g.K.Sink.written l.sink) (g.K.Sink.faults l.sink) l.room.items)
    (flat_map field l.fn.numbers) (flat_map field (drop l.number-index l.numbers))
