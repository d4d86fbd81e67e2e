use Rattle.std.proofs.Common.{◌≡◌, ◌+◌, ◌*◌, ◌≤◌, IsTrue, take}
use Rattle.ports.specs.Calls.{WentOn}
use Rattle.ports.specs.Frame.{KeepsPages}
use Rattle.page_layout.specs.TreeValue.{IsTreeTyped, tree_fits}
use Rattle.mvsb_tree.specs.Built.{IsBuilt}
use Rattle.mvsb_tree.proofs.build.mv_build.Given as goal

abbrev pub invariant-loop-index : goal.invariant-loop-index
invariant-loop-index g l = record {
  went_on : WentOn g.S.Pages (g.S.Pages.allotted l.stage) l.fn.stage l.stage;
  keeps : IsTrue (g.S.Pages.tells l.fn.stage) → KeepsPages (g.S.Pages.map l.fn.stage) (g.S.Pages.map l.stage);
  count : l.tree.count ≡ l.index;
  rules : IsTrue (tree_fits l.tree);
  typed : IsTreeTyped l.tree;
  built : IsTrue (g.S.Pages.tells l.fn.stage) → IsBuilt (take l.index l.points) (g.S.Pages.map l.fn.stage) (g.S.Pages.map l.stage) l.tree;
  few : IsTrue (g.S.Pages.tells l.fn.stage) → g.S.Pages.allotted l.stage ≤ g.S.Pages.allotted l.fn.stage + l.index * 24;
}
