-- What the crates above know of trees over versions, beside the contracts of the calls.
use Rattle.std.specs.Prelude.{◌≡◌, ◌<◌, ◌≤◌, ◌^◌, List, [], length, IsPermutation}
use Rattle.bw_types.specs.declared.point.Point.{Point}
use Rattle.bw_types.specs.declared.tree.Tree.{Tree}
use Rattle.ports.specs.Pages.{PageMap}
use Rattle.ports.specs.Frame.{AgreeOn, AreInMap}
use Rattle.sb_tree.specs.Steps.{tree_pages}
use Rattle.sb_tree.specs.Stands.{SbStands, IsBalanced, IsEmptyTree}

-- Whether a tree stands, and its footprint, depend on the pages of its footprint alone.
abbrev pub StandsByItsPages : Type 0
StandsByItsPages = (pages others : PageMap) (tree : Tree) (points : List Point) → SbStands pages tree points
    → AgreeOn (tree_pages pages tree) pages others → SbStands others tree points × (tree_pages others tree ≡ tree_pages pages tree)

-- The pages of a tree that stands are in the map.
abbrev pub PagesAreThere : Type 0
PagesAreThere = (pages : PageMap) (tree : Tree) (points : List Point) → SbStands pages tree points → AreInMap pages (tree_pages pages tree)

-- The order of the points does not count.
abbrev pub StandsInAnyOrder : Type 0
StandsInAnyOrder = (pages : PageMap) (tree : Tree) (points others : List Point)
    → SbStands pages tree points → IsPermutation points others → SbStands pages tree others

-- The empty tree stands for no points.
abbrev pub EmptyTreeStands : Type 0
EmptyTreeStands = (pages : PageMap) (tree : Tree) → IsEmptyTree tree → SbStands pages tree []

-- A balanced tree of fewer than 2^31 points has at most 7 levels, so an addition gives out at most 8 pages.
abbrev pub BalancedTreeIsLow : Type 0
BalancedTreeIsLow = (pages : PageMap) (tree : Tree) (points : List Point)
    → SbStands pages tree points → length points < 2 ^ 31 → IsBalanced tree → tree.levels ≤ 7
