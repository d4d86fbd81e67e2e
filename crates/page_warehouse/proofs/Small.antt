-- Trees that stay one page each.
use Rattle.std.proofs.Common.{◌≡◌, ℕ, ◌+◌, ◌*◌, ◌≤◌, List, length, arith}
use Rattle.std.proofs.Math.Nat.{mul-le-mul_right}
use Rattle.bw_types.specs.Empty.{empty_tree}
use Rattle.bw_types.specs.declared.params.Params.{Params}
use Rattle.bw_types.specs.declared.tree.Tree.{Tree}
use Rattle.ports.specs.Pages.{PageMap}
use Rattle.corner_weights.specs.PlaneSums.{Entered}
use Rattle.dom_index.specs.declared.index.DomIndex.{Ghosts}
use Rattle.corner_forest.specs.Enters.{HaveRoom}
use Rattle.corner_forest.specs.Entries.{point_count}
use Rattle.corner_forest.specs.Laws.{TreesCountTheirPoints}
use Rattle.corner_forest.specs.Stands.{ForestStands}
use Rattle.page_warehouse.specs.Needs.{StayOnePage}

both_parts : (n m k : ℕ) → (n + m) * k ≡ n * k + m * k
both_parts n m k = grind arith

-- there is room for so many entries more
pub batch_room : {X : Type 0} (g : Ghosts X) → TreesCountTheirPoints g → (pages : PageMap) (params : Params) (roots : List Tree) (entries : List Entered) (n most : ℕ) → ForestStands g pages params roots entries
    → length entries + n ≤ most → StayOnePage params most roots → HaveRoom params n roots
batch_room g counted pages params roots entries n most stands le stay = λ root lt.
    let count = stands.count in
    let low = stay.low root empty_tree (omega (arith, lt, count)) in
    let is = counted pages params roots entries stands root lt in
    let room = stay.room root lt in
    let fewer : (length entries + n) * point_count params root ≤ most * point_count params root = mul-le-mul_right (point_count params root) le in
    let whole = both_parts (length entries) n (point_count params root) in
    (low, omega (arith, is, room, fewer, whole))
