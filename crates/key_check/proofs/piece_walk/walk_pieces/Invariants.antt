use Rattle.std.proofs.Common.{◌-◌, IsTrue, take}
use Rattle.page_checks.specs.Reads.{AreAsBefore}
use Rattle.key_check.specs.Levels.{AreWhole, Leaves, PiecesStand, pieces_total}
use Rattle.key_check.proofs.piece_walk.walk_pieces.Given as goal

abbrev pub invariant-loop-l : goal.invariant-loop-l
invariant-loop-l g l = record {
  whole : AreWhole (l.level - 1) l.fn.below.items → AreWhole (l.level - 1) l.below.items;
  leaves : IsTrue (g.P.Pages.tells l.fn.pages) → Leaves (PiecesStand (g.P.Pages.map l.fn.pages) l.nodes (take l.l-index l.pieces)) (pieces_total (g.P.Pages.map l.fn.pages) (take l.l-index l.pieces))
      (g.P.Pages.map l.fn.pages) l.nodes l.fn.below.items l.below.items l.fn.corners.items l.corners.items;
  read : AreAsBefore g.P.Pages l.fn.pages l.pages;
}
