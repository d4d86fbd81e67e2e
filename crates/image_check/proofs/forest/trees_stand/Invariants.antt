use Rattle.std.proofs.Common.{◌↔◌, ◌++◌, IsTrue, IsPermutation, drop}
use Rattle.history_laws.specs.Entries.{entries_of}
use Rattle.corner_forest.specs.Entries.{root_points}
use Rattle.corner_forest.specs.Stands.{AreBalanced, forest_pages}
use Rattle.corner_forest.specs.Trees.{EachStands}
use Rattle.page_checks.specs.Reads.{AreAsBefore}
use Rattle.image_check.proofs.forest.trees_stand.Given as goal

-- The trees stand just where those to come do.
abbrev pub invariant-loop-place : goal.invariant-loop-place
invariant-loop-place g l =
    let index = g.X.DomIndex in
    let pages = g.P.Pages.map l.fn.pages in
    let points = root_points l.params (entries_of l.lives) in
    record {
      stand : IsTrue (g.P.Pages.tells l.fn.pages)
          → (EachStands (index.stands pages l.params.dims) points 0 l.roots × AreBalanced index pages l.params l.roots)
          ↔ (EachStands (index.stands pages l.params.dims) points l.place (drop l.place l.roots) × AreBalanced index pages l.params (drop l.place l.roots));
      named : IsTrue (g.P.Pages.tells l.fn.pages)
          → IsPermutation (l.fn.named.items ++ forest_pages index pages l.params l.roots) (l.named.items ++ forest_pages index pages l.params (drop l.place l.roots));
      read : AreAsBefore g.P.Pages l.fn.pages l.pages;
    }
