use Rattle.std.proofs.Common.{◌≡◌, ℕ, ◌+◌, ◌≤◌, IsTrue, List, drop}
use Rattle.bw_types.specs.declared.point.Point.{Point}
use Rattle.bw_types.specs.declared.tree.Tree.{Tree}
use Rattle.ports.specs.Calls.{WentOn}
use Rattle.ports.specs.Pages.{PageMap}
use Rattle.page_layout.specs.TreeValue.{IsTreeTyped, tree_fits}
use Rattle.dom_index.specs.Adding.{AreNewInTurn}
use Rattle.dom_index.specs.AddingDamage.{AdditionsMayLeave, IsDamagedForPoints}
use Rattle.dom_index.specs.Growth.{tree_growth}
use Rattle.dom_index.proofs.Additions.{TakenSoFar}
use Rattle.dom_index.proofs.adding.add_all.Given as goal

abbrev pub invariant-loop-point : goal.invariant-loop-point
invariant-loop-point g l =
    let pages = g.S.Pages in
    let index = g.X.DomIndex in
    let before = pages.map l.fn.stage in
    record {
      went : WentOn pages (pages.allotted l.stage + 1) l.fn.stage l.stage;
      taken : IsTrue (pages.tells l.fn.stage) → (kept : List Point) → index.stands before l.dims l.fn.tree kept → AreNewInTurn l.dims kept l.points
          → TakenSoFar index l.dims before (pages.map l.stage) l.fn.tree l.grown l.points kept l.point-index;
      leaves : IsTrue (pages.tells l.fn.stage) → (after : PageMap) (new : Tree) → AdditionsMayLeave index l.dims (drop l.point-index l.points) (pages.map l.stage) l.grown after new
          → AdditionsMayLeave index l.dims l.points before l.fn.tree after new;
      damaged : IsTrue (pages.tells l.fn.stage) → (page : ℕ) → IsDamagedForPoints index l.dims (drop l.point-index l.points) (pages.map l.stage) l.grown page
          → IsDamagedForPoints index l.dims l.points before l.fn.tree page;
      typed : IsTreeTyped l.grown;
      rules : IsTrue (tree_fits l.fn.tree) → IsTrue (tree_fits l.grown);
      growth : IsTrue (pages.tells l.fn.stage) → (kept : List Point) → index.stands before l.dims l.fn.tree kept → AreNewInTurn l.dims kept l.points
          → index.balanced before l.dims l.fn.tree → WentOn pages (tree_growth l.dims l.fn.tree l.point-index) l.fn.stage l.stage;
    }
