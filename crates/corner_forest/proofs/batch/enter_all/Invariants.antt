use Rattle.std.proofs.Common.{◌≡◌, ◌+◌, ◌≤◌, IsTrue, List, ◌++◌, drop, length}
use Rattle.std.specs.List.{All}
use Rattle.ports.specs.Calls.{WentOn}
use Rattle.page_layout.specs.TreeValue.{tree_fits}
use Rattle.corner_weights.specs.PlaneSums.{Entered}
use Rattle.dom_index.specs.Growth.{sum_below}
use Rattle.corner_forest.specs.BatchDamage.{TreesMayLeave}
use Rattle.corner_forest.specs.Enters.{HaveRoom, IsEntering, MayEnter, all_entered_at, first_page}
use Rattle.corner_forest.specs.Stands.{AreBalanced}
use Rattle.corner_forest.proofs.Growth.{batch_at}
use Rattle.corner_forest.proofs.batch.enter_all.Given as goal

abbrev pub invariant-loop-place : goal.invariant-loop-place
invariant-loop-place g l =
    let pages = g.S.Pages in
    let index = g.X.DomIndex in
    let before = pages.map l.fn.stage in
    let params = l.fn.params in
    let batch = all_entered_at l.fn.version l.fn.batch in
    record {
      len : length l.roots.items ≡ l.place;
      went : WentOn pages (pages.allotted l.stage + 1) l.fn.stage l.stage;
      enters : IsTrue (pages.tells l.fn.stage) → (entries : List Entered) → MayEnter index before params l.fn.old entries batch
          → IsEntering index params before (pages.map l.stage) l.fn.old (l.roots.items ++ drop l.place l.fn.old) entries batch l.place;
      reached : IsTrue (pages.tells l.fn.stage) → TreesMayLeave index params batch l.fn.old l.place before (pages.map l.stage);
      rules : All (λ t. IsTrue (tree_fits t)) l.fn.old → All (λ t. IsTrue (tree_fits t)) l.roots.items;
      growth : IsTrue (pages.tells l.fn.stage) → (entries : List Entered) → MayEnter index before params l.fn.old entries batch
          → AreBalanced index before params l.fn.old
          → WentOn pages (sum_below l.place (batch_at params (length entries) (length l.fn.batch))) l.fn.stage l.stage;
      small_growth : IsTrue (pages.tells l.fn.stage) → (entries : List Entered) → MayEnter index before params l.fn.old entries batch
          → AreBalanced index before params l.fn.old → 2 ≤ params.dims → HaveRoom params (length l.fn.batch) l.fn.old
          → WentOn pages (sum_below l.place (first_page l.fn.old)) l.fn.stage l.stage;
      one_page : IsTrue (pages.tells l.fn.stage) → (entries : List Entered) → MayEnter index before params l.fn.old entries batch
          → 2 ≤ params.dims → HaveRoom params (length l.fn.batch) l.fn.old → 1 ≤ length l.fn.batch → All (λ t. t.levels ≡ 1) l.roots.items;
    }
