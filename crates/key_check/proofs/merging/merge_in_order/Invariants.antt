use Rattle.std.proofs.Common.{ℕ, List, [], take}
use Rattle.ports.specs.Pages.{PageMap}
use Rattle.key_check.specs.Levels.{AreWhole, PiecesStand, Pushes, pieces_total}
use Rattle.key_check.proofs.merging.merge_in_order.Given as goal

abbrev pub invariant-loop-l : goal.invariant-loop-l
invariant-loop-l l = (level : ℕ) → AreWhole level l.pieces → AreWhole level l.merged.items
    × ((m : PageMap) (nodes : List ℕ) → Pushes (PiecesStand m nodes (take l.l-index l.pieces)) (pieces_total m (take l.l-index l.pieces)) m nodes [] l.merged.items)
