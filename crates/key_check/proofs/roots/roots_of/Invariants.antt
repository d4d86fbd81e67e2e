use Rattle.std.proofs.Common.{ℕ, ◌^◌, List, IsTrue, drop}
use Rattle.page_checks.specs.Reads.{AreAsBefore}
use Rattle.key_check.specs.KeyTrees.{first_step}
use Rattle.key_check.specs.Levels.{AreWhole}
use Rattle.key_check.specs.Steps.{AscendFrom}
use Rattle.key_check.proofs.RootPieces.{RootsPushed}
use Rattle.key_check.proofs.roots.roots_of.Given as goal

abbrev pub invariant-loop-place : goal.invariant-loop-place
invariant-loop-place g l = record {
  whole : AreWhole 255 l.rooted.items;
  pushes : IsTrue (g.P.Pages.tells l.fn.pages) → AscendFrom 0 l.steps (2 ^ 32) → (nodes : List ℕ)
      → RootsPushed (g.P.Pages.map l.fn.pages) nodes l.count l.steps (first_step (drop l.place l.steps) (2 ^ 32)) l.rooted.items;
  read : AreAsBefore g.P.Pages l.fn.pages l.pages;
}
