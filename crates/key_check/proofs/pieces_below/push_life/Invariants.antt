use Rattle.std.proofs.Common.{◌≡◌, ℕ, ◌-◌, ◌≤◌, ◌⊎◌, List}
use Rattle.ports.specs.Pages.{PageMap}
use Rattle.key_check.specs.Cells.{CellStands, cell_total}
use Rattle.key_check.specs.Levels.{AreWhole, Pushes}
use Rattle.key_check.proofs.pieces_below.push_life.Given as goal

abbrev pub invariant-loop-from : goal.invariant-loop-from
invariant-loop-from l = record {
  begun : l.life.from ≤ l.from;
  most : (l.from ≡ l.life.from) ⊎ (l.from ≤ l.life.to);
  pushes : (m : PageMap) (nodes : List ℕ) → Pushes (CellStands l.level m nodes l.life l.rest l.from) (cell_total l.level m l.life l.rest l.from) m nodes l.fn.below.items l.below.items;
  whole : AreWhole l.level l.fn.below.items → AreWhole l.level l.below.items;
}

abbrev pub decreases-loop-from : goal.decreases-loop-from
decreases-loop-from l = l.life.to - l.from
