-- What the crates above know of multiversion trees, beside the contracts of the calls.
use Rattle.std.specs.Prelude.{◌≡◌, ℕ, ◌<◌, ◌≤◌, ◌^◌, List, [], length, IsPermutation}
use Rattle.bw_types.specs.declared.point.Point.{Point}
use Rattle.bw_types.specs.declared.tree.Tree.{Tree}
use Rattle.ports.specs.Pages.{PageMap}
use Rattle.ports.specs.Frame.{AgreeOn, AreInMap}
use Rattle.mvsb_tree.specs.Steps.{root_at, root_level, tree_pages}
use Rattle.mvsb_tree.specs.Stands.{IsBalanced, IsEmptyTree, MvStands}

-- Whether a tree stands, and its footprint, depend on the pages of its footprint alone.
abbrev pub StandsByItsPages : Type 0
StandsByItsPages = (pages others : PageMap) (tree : Tree) (points : List Point) → MvStands pages tree points
    → AgreeOn (tree_pages pages tree) pages others → MvStands others tree points × (tree_pages others tree ≡ tree_pages pages tree)

-- The pages of a tree that stands are in the map.
abbrev pub PagesAreThere : Type 0
PagesAreThere = (pages : PageMap) (tree : Tree) (points : List Point) → MvStands pages tree points → AreInMap pages (tree_pages pages tree)

-- The order of the points does not count.
abbrev pub StandsInAnyOrder : Type 0
StandsInAnyOrder = (pages : PageMap) (tree : Tree) (points others : List Point)
    → MvStands pages tree points → IsPermutation points others → MvStands pages tree others

-- The empty tree stands for no points.
abbrev pub EmptyTreeStands : Type 0
EmptyTreeStands = (pages : PageMap) (tree : Tree) → IsEmptyTree tree → MvStands pages tree []

-- So does whether it is balanced.
abbrev pub BalanceByItsPages : Type 0
BalanceByItsPages = (pages others : PageMap) (tree : Tree) (points : List Point) → MvStands pages tree points
    → AgreeOn (tree_pages pages tree) pages others → IsBalanced pages tree → IsBalanced others tree

-- The empty tree is balanced.
abbrev pub EmptyTreeIsBalanced : Type 0
EmptyTreeIsBalanced = (pages : PageMap) (tree : Tree) → IsEmptyTree tree → IsBalanced pages tree

-- In a balanced tree of fewer than 2^31 points neither the directory nor a root has more than 7 levels.
abbrev pub BalancedTreeIsLow : Type 0
BalancedTreeIsLow = (pages : PageMap) (tree : Tree) (points : List Point) → MvStands pages tree points → length points < 2 ^ 31 → IsBalanced pages tree
    → (tree.levels ≤ 7) × ((version : ℕ) → version < 2 ^ 32 → root_level pages (root_at pages tree version) ≤ 7)
