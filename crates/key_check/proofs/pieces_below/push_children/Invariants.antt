use Rattle.std.proofs.Common.{ℕ, ◌-◌, List, drop, length}
use Rattle.ports.specs.Pages.{PageMap}
use Rattle.key_check.specs.Levels.{AreWhole}
use Rattle.key_check.proofs.Descending.{Goes}
use Rattle.key_check.proofs.pieces_below.push_children.Given as goal

abbrev pub invariant-loop-place : goal.invariant-loop-place
invariant-loop-place l = record {
  goes : (m : PageMap) (nodes : List ℕ) → Goes l.level m nodes l.piece l.entries (drop l.place l.entries) l.fn.below.items l.below.items;
  whole : AreWhole l.level l.fn.below.items → AreWhole l.level l.below.items;
}

abbrev pub decreases-loop-place : goal.decreases-loop-place
decreases-loop-place l = length l.entries - l.place
