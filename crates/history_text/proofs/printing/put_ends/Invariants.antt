use Rattle.std.proofs.Common.{◌-◌}
use Rattle.std.specs.List.{flat_map, range_with_len}
use Rattle.history_text.specs.Given.{standing}
use Rattle.history_text.specs.Rows.{ends_text}
use Rattle.history_text.proofs.Gathered.{Amid}
use Rattle.history_text.proofs.printing.put_ends.Given as goal

abbrev pub invariant-loop-dimension : goal.invariant-loop-dimension
invariant-loop-dimension g l = Amid
    (standing (g.K.Sink.tells l.fn.sink) (g.K.Sink.written l.fn.sink) (g.K.Sink.faults l.fn.sink) l.fn.room.items)
    (standing (g.K.Sink.tells l.sink) (g.K.Sink.written l.sink) (g.K.Sink.faults l.sink) l.room.items)
    (flat_map (ends_text l.fn.params l.fn.object) (range_with_len 0 l.fn.params.dims))
    (flat_map (ends_text l.params l.object) (range_with_len l.dimension (l.params.dims - l.dimension)))
