-- How pages spell a part.
--
-- The nodes of a page are those of a part with whose cut the page begins, in pre-order. A side that is a leaf, or that
-- begins a page, is an entry; the nodes of any other side follow in their place.
use Rattle.std.specs.Prelude.{◌≡◌, ℕ, zero, suc, ◌-◌, nat_le, if◌then◌else◌, Option, Some, None, List, [], ◌∷◌, ◌++◌}
use Rattle.std.specs.Option.{option_map_or}
use Rattle.bw_types.specs.declared.point.Point.{Point}
use Rattle.bw_types.specs.declared.tree.Tree.{Tree}
use Rattle.ports.specs.Pages.{PageMap}
use Rattle.page_layout.specs.CutPage as cuts
use Rattle.page_layout.specs.PointLeaf as leaf
use Rattle.page_layout.specs.Spelled.{Spells}
use Rattle.page_layout.specs.declared.cut_page.CutNode.{CutNode}
use Rattle.page_layout.specs.declared.cut_page.CutNode.TheVariants.{Entry, Cut}
use Rattle.page_layout.specs.declared.cut_page.CutPage.{CutPage}
use Rattle.page_layout.specs.declared.point_leaf.PointLeaf.{PointLeaf}
use Rattle.page_layout.specs.declared.spelled.Spelled.{Ghosts}
use Rattle.cut_parts.specs.Parts.{Part, Leaf, Split}

-- what pages spell as cuts, and as points
abbrev pub pages_of_cuts : Ghosts CutPage
pages_of_cuts = record { keeps = cuts.IsCutPage; is_typed = cuts.IsTyped; spelling = cuts.cut_page_page; value_in = cuts.cut_page_in }

abbrev pub point_pages : Ghosts PointLeaf
point_pages = record { keeps = leaf.IsPointLeaf; is_typed = leaf.IsTyped; spelling = leaf.point_leaf_page; value_in = leaf.point_leaf_in }

-- These bytes spell a page of cuts.
unfoldable pub is_cuts : List ℕ → Type 0
is_cuts bytes = Spells pages_of_cuts (cuts.cut_page_in bytes) bytes

-- the nodes that they spell
unfoldable pub nodes_in : List ℕ → List CutNode
nodes_in bytes = (cuts.cut_page_in bytes).nodes.items

-- These bytes spell a leaf of points, which names no next page.
unfoldable pub is_leaf : List ℕ → Type 0
is_leaf bytes = Spells point_pages (leaf.point_leaf_in bytes) bytes × ((leaf.point_leaf_in bytes).next ≡ 0)

-- the points that they spell
unfoldable pub points_in : List ℕ → List Point
points_in bytes = (leaf.point_leaf_in bytes).points.items

-- The page is there, and its bytes spell this value.
pub record Holds {V : Type 0} (spells : List ℕ → Type 0) (value_in : List ℕ → V) (pages : PageMap) (page : ℕ) (value : V) : Type 0 where
  pub bytes : List ℕ
  pub there : pages page ≡ Some bytes
  pub spelled : spells bytes
  pub is : value_in bytes ≡ value

-- The page holds these nodes.
abbrev pub HoldsCuts : PageMap → ℕ → List CutNode → Type 0
HoldsCuts pages page nodes = Holds is_cuts nodes_in pages page nodes

-- The page holds these points, and names no next page.
abbrev pub HoldsLeaf : PageMap → ℕ → List Point → Type 0
HoldsLeaf pages page points = Holds is_leaf points_in pages page points

-- nodes in the page above: an entry where they begin a page of their own
abbrev pub at_home : Option ℕ → List CutNode → List CutNode
at_home (Some page) nodes = Entry page ∷ []
at_home None nodes = nodes

-- the nodes by which a part stands in the page above it
abbrev pub nodes_of : Part → List CutNode
nodes_of (Leaf page points) = Entry page ∷ []
nodes_of (Split home dimension key low border low_side high_side) =
    at_home home (Cut dimension key low border ∷ (nodes_of low_side ++ nodes_of high_side))

-- the pages of a home, and others
abbrev pub from_home : Option ℕ → List ℕ → List ℕ
from_home (Some page) others = page ∷ others
from_home None others = others

-- the pages of a part, from those of each border
abbrev pub pages_of : (Tree → List ℕ) → Part → List ℕ
pages_of border_pages (Leaf page points) = page ∷ []
pages_of border_pages (Split home dimension key low border low_side high_side) =
    from_home home (border_pages border ++ (pages_of border_pages low_side ++ pages_of border_pages high_side))

-- the part with another home for its first cut
abbrev pub at_page : Option ℕ → Part → Part
at_page home (Leaf page points) = Leaf page points
at_page home (Split other dimension key low border low_side high_side) = Split home dimension key low border low_side high_side

-- the page with which a part begins, where one does
abbrev pub first_page : Part → Option ℕ
first_page (Leaf page points) = Some page
first_page (Split home dimension key low border low_side high_side) = home

-- Where there is a home, its page holds these nodes.
abbrev pub HomeHolds : PageMap → Option ℕ → List CutNode → Type 0
HomeHolds pages (Some page) nodes = HoldsCuts pages page nodes
HomeHolds pages None nodes = Unit {0}

-- The pages spell the part.
abbrev pub IsSpelled : PageMap → Part → Type 0
IsSpelled pages (Leaf page points) = HoldsLeaf pages page points
IsSpelled pages (Split home dimension key low border low_side high_side) =
    HomeHolds pages home (Cut dimension key low border ∷ (nodes_of low_side ++ nodes_of high_side))
    × IsSpelled pages low_side × IsSpelled pages high_side

-- The first part that nodes spell, of n points, and the nodes after it. Steps: twice the points are enough.
abbrev pub part_in : PageMap → ℕ → ℕ → List CutNode → Part × List CutNode
part_in pages zero n nodes = (Leaf 0 [], [])
part_in pages (suc steps) n [] = (Leaf 0 [], [])
part_in pages (suc steps) n (Entry child ∷ nodes) = (
  (if nat_le n 64
      then Leaf child (option_map_or points_in (pages child) [])
      else at_page (Some child) (part_in pages steps n (option_map_or nodes_in (pages child) [])).0),
  nodes,
)
part_in pages (suc steps) n (Cut dimension key low border ∷ nodes) =
    let low_side : Part × List CutNode = part_in pages steps low nodes in
    let high_side : Part × List CutNode = part_in pages steps (n - low) low_side.1 in
    (Split None dimension key low border low_side.0 high_side.0, high_side.1)
