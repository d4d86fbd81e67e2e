use Rattle.std.proofs.Common.{◌≡◌, ◌++◌, IsTrue, List}
use Rattle.bw_types.specs.declared.point.Point.{Point}
use Rattle.mvsb_tree.specs.Steps.{chain_from}
use Rattle.page_checks.specs.Reads.{AreAsBefore}
use Rattle.key_check.specs.Chains.{ChainKeeps}
use Rattle.key_check.specs.Marks.{AreMarksOf}
use Rattle.key_check.proofs.chain.walk_places.Given as goal

abbrev pub invariant-loop-left : goal.invariant-loop-left
invariant-loop-left g l = record {
  up : (points : List Point) → AreMarksOf points l.marks → IsTrue (g.P.Pages.tells l.fn.pages)
      → ChainKeeps l.left (g.P.Pages.map l.fn.pages) points l.page → ChainKeeps l.places (g.P.Pages.map l.fn.pages) points l.last;
  down : (points : List Point) → AreMarksOf points l.marks → IsTrue (g.P.Pages.tells l.fn.pages)
      → ChainKeeps l.places (g.P.Pages.map l.fn.pages) points l.last → ChainKeeps l.left (g.P.Pages.map l.fn.pages) points l.page;
  listed : IsTrue (g.P.Pages.tells l.fn.pages)
      → l.named.items ++ chain_from l.left (g.P.Pages.map l.fn.pages) l.page ≡ l.fn.named.items ++ chain_from l.places (g.P.Pages.map l.fn.pages) l.last;
  read : AreAsBefore g.P.Pages l.fn.pages l.pages;
}

abbrev pub decreases-loop-left : goal.decreases-loop-left
decreases-loop-left g l = l.left
