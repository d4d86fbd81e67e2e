use Rattle.std.proofs.Common.{take}
use Rattle.std.specs.List.{All}
use Rattle.span_planes.specs.Filled.{CanFill}
use Rattle.span_planes.proofs.writing.can_fill_all.Given as goal

abbrev pub invariant-loop-event : goal.invariant-loop-event
invariant-loop-event l = All (CanFill l.fn.params) (take l.event-index l.events)
