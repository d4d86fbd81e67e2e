use Rattle.std.proofs.Common.{◌≤◌, map, take, drop, length}
use Rattle.page_warehouse.specs.Events.{numbered_in}
use Rattle.image_check.specs.Rebuilding.{Stands}
use Rattle.image_check.proofs.lives.rebuilt_lives.Given as goal

abbrev pub invariant-loop-left : goal.invariant-loop-left
invariant-loop-left l = record {
  within : l.left ≤ length l.events;
  stands : Stands l.counts l.ends l.lives.items (map numbered_in (take l.left l.events)) (map numbered_in (drop l.left l.events));
}

abbrev pub decreases-loop-left : goal.decreases-loop-left
decreases-loop-left l = l.left
