-- Trees that are built of points.
use Rattle.std.specs.Prelude.{◌≡◌, ◌≢◌, ℕ, ◌<◌, ◌≤◌, ◌^◌, List, [], Some}
use Rattle.std.specs.List.{All}
use Rattle.bw_types.specs.declared.point.Point.{Point}
use Rattle.bw_types.specs.declared.tree.Tree.{Tree}
use Rattle.ports.specs.Frame.{Replaces}
use Rattle.ports.specs.Pages.{PageMap, put_page}
use Rattle.page_layout.specs.MvNode.{mv_node_page}
use Rattle.page_layout.specs.declared.mv_node.MvNode.{MvNode}
use Rattle.mvsb_tree.specs.Stands.{IsBalanced, MvStands}
use Rattle.mvsb_tree.specs.Steps.{root_at, tree_pages}

-- The tree stands for the points and is balanced. Its pages are new, and no other page changed.
pub record IsBuilt (points : List Point) (before after : PageMap) (tree : Tree) : Type 0 where
  pub stands : MvStands after tree points
  pub balanced : IsBalanced after tree
  pub change : Replaces [] (tree_pages after tree) before after

-- the tree with another count of points
abbrev pub with_count : Tree → ℕ → Tree
with_count tree count = record { root = tree.root; levels = tree.levels; count = count; changes = tree.changes; last = tree.last }

-- the map with the node in the page of the tree's last place
abbrev pub with_last : PageMap → Tree → MvNode → PageMap
with_last map tree node = put_page map tree.last (mv_node_page node)

-- The tree has levels, stands for the points and is balanced. The page of its last place, at least 3, holds the node, which is
-- the root at each version that no point is after.
pub record StandsFromLast (map : PageMap) (tree : Tree) (points : List Point) (node : MvNode) : Type 0 where
  pub number : 3 ≤ tree.last
  pub levels : tree.levels ≢ 0
  pub there : map tree.last ≡ Some (mv_node_page node)
  pub stands : MvStands map tree points
  pub balanced : IsBalanced map tree
  pub root : (version : ℕ) → All (λ p. p.version ≤ version) points → version < 2 ^ 32 → root_at map tree version ≡ tree.last

-- Where a tree stands for the points from the old node in the page of its last place, it stands for the others, so many, from
-- the new node there, and the map changes by the tree's pages alone.
abbrev pub TakesPoints : (points others : List Point) (count : ℕ) (old new : MvNode) → Type 0
TakesPoints points others count old new = (map : PageMap) (tree : Tree) → StandsFromLast map tree points old
    → StandsFromLast (with_last map tree new) (with_count tree count) others new
    × Replaces (tree_pages map tree) (tree_pages (with_last map tree new) (with_count tree count)) map (with_last map tree new)
