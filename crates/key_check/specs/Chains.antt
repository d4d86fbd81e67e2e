-- The nodes of a multiversion tree, one page after the other.
use Rattle.std.specs.Prelude.{◌≡◌, ℕ, zero, suc, Some, List}
use Rattle.bw_types.specs.declared.point.Point.{Point}
use Rattle.ports.specs.Pages.{PageMap}
use Rattle.page_layout.specs.MvNode.{IsMvNode, IsTyped, mv_node_page}
use Rattle.page_layout.specs.declared.mv_node.MvNode.{MvNode}
use Rattle.mvsb_tree.specs.Stands.{EntriesKeep}
use Rattle.mvsb_tree.specs.Steps.{node_on}

-- The page spells a node.
pub record HoldsNode (pages : PageMap) (page : ℕ) : Type 0 where
  pub spelled : pages page ≡ Some (mv_node_page (node_on pages page))
  pub rules : IsMvNode (node_on pages page)
  pub typed : IsTyped (node_on pages page)

-- The page spells this node.
pub record HoldsThis (pages : PageMap) (page : ℕ) (node : MvNode) : Type 0 where
  pub holds : HoldsNode pages page
  pub same : node_on pages page ≡ node

-- The page spells a node of this place, whose entries keep to the points.
pub record PlaceKeeps (pages : PageMap) (points : List Point) (place page : ℕ) : Type 0 where
  pub holds : HoldsNode pages page
  pub placed : (node_on pages page).place ≡ place
  pub entries : EntriesKeep points (node_on pages page)

-- So does each page of the chain of so many places, and the first place has none before it.
abbrev pub ChainKeeps : ℕ → PageMap → List Point → ℕ → Type 0
ChainKeeps zero pages points page = page ≡ 0
ChainKeeps (suc places) pages points page =
    PlaceKeeps pages points (suc places) page × ChainKeeps places pages points (node_on pages page).before
