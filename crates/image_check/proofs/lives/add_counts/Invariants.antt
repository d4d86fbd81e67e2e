use Rattle.std.proofs.Common.{map, take}
use Rattle.page_warehouse.specs.Events.{numbered_in}
use Rattle.image_check.specs.Rebuilding.{CountsAdds}
use Rattle.image_check.proofs.lives.add_counts.Given as goal

abbrev pub invariant-loop-event : goal.invariant-loop-event
invariant-loop-event l = CountsAdds l.counts (map numbered_in (take l.event-index l.events))
