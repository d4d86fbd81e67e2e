-- A point that is added to a part.
use Rattle.std.specs.Prelude.{◌≡◌, ℕ, suc, ◌+◌, ◌<◌, ◌≤◌, ◌==◌, false, Option, slice_index, slice_set, insert, take, drop, List, [], ◌∷◌, ◌++◌, length, IsPermutation, IsSome, IsTrue}
use Rattle.std.specs.List.{All}
use Rattle.bw_types.specs.Empty.{empty_tree}
use Rattle.bw_types.specs.declared.point.Point.{Point}
use Rattle.bw_types.specs.declared.tree.Tree.{Tree}
use Rattle.ports.specs.Frame.{Replaces}
use Rattle.ports.specs.Pages.{PageMap}
use Rattle.page_layout.specs.CutPage.{IsNodeTyped, cut_one, node_fits}
use Rattle.page_layout.specs.Footprint.{NamesNoneTwice}
use Rattle.page_layout.specs.declared.cut_page.CutNode.{CutNode}
use Rattle.page_layout.specs.declared.cut_page.CutNode.TheVariants.{Entry}
use Rattle.dom_index.specs.Points.{IsNewPoint}
use Rattle.cut_parts.specs.Borders.{MayBeBuilt}
use Rattle.cut_parts.specs.Damage.{after_parts}
use Rattle.cut_parts.specs.Parts.{Part, border_points, points_of}
use Rattle.cut_parts.specs.Spelling.{HoldsLeaf, first_page, nodes_of}
use Rattle.cut_parts.specs.Standing.{PartBalanced, PartStands, part_pages}
use Rattle.cut_parts.specs.declared.border_tree.BorderTree.{Ghosts}
use Rattle.ba_tree.specs.declared.change.Change.{Change}
use Rattle.ba_tree.specs.declared.change.Change.TheVariants.{Same, Moved, Raised}

-- A leaf of 64 points made way for two leaves at a cut, with one point more, of which the low one keeps its page.
pub record IsLeafSplit (dims : ℕ) (before after : PageMap) (page high dimension key : ℕ) (points : List Point) (point : Point) : Type 0 where
  pub lows : List Point
  pub highs : List Point
  pub low_holds : HoldsLeaf after page lows
  pub high_holds : HoldsLeaf after high highs
  pub few_low : length lows ≡ 32
  pub few_high : length highs ≡ 33
  pub same : IsPermutation (lows ++ highs) (point ∷ points)
  pub in_dims : dimension < dims
  pub below : All (λ p. slice_index p.keys dimension < key) lows
  pub from : All (λ p. key ≤ slice_index p.keys dimension) highs
  pub other : (high == page) ≡ false
  pub change : Replaces (page ∷ []) (page ∷ high ∷ []) before after

-- the nodes by which a part stands in the page above that began with this page and got a point
abbrev pub nodes_after : Change → ℕ → List CutNode
nodes_after Same page = Entry page ∷ []
nodes_after (Moved other) page = Entry other ∷ []
nodes_after (Raised cut low high) page = cut ∷ Entry low ∷ Entry high ∷ []

-- The border of a cut whose low side got a point: it is empty where the side is still a leaf, and else stands for the points.
pub record BorderGrown {B : Type 0} (g : Ghosts B) (before after : PageMap) (dimension low : ℕ) (border grown : Tree) (points : List Point) (point : Point) : Type 0 where
  pub few : low + 1 ≤ 64 → grown ≡ empty_tree
  pub many : 64 < low + 1 → g.stands after grown (border_points dimension (point ∷ points))
  pub change : Replaces (g.footprint before border) (g.footprint after grown) before after
  pub once : NamesNoneTwice (g.footprint after grown)
  pub balance : (64 < low → g.balanced before border) → 64 < low + 1 → g.balanced after grown

-- A border was built of the points of a low side and one more.
pub record BorderBegun {B : Type 0} (g : Ghosts B) (before after : PageMap) (dimension : ℕ) (begun : Tree) (points : List Point) (point : Point) : Type 0 where
  pub stood : g.stands after begun (border_points dimension (point ∷ points))
  pub balance : g.balanced after begun
  pub change : Replaces [] (g.footprint after begun) before after

-- The border of a cut and its low side, a leaf of this page where it is one, may take this point.
pub record BorderTakes {B : Type 0} (g : Ghosts B) (pages : PageMap) (leaf : Option ℕ) (dimension low : ℕ) (border : Tree) (side : Part) (point : Point) : Type 0 where
  pub stood : PartStands g pages low side
  pub leaf_is : low ≡ 64 → leaf ≡ first_page side
  pub few : low ≤ 64 → border ≡ empty_tree
  pub many : 64 < low → g.stands pages border (border_points dimension (points_of side))
  pub new : IsNewPoint (suc g.DIMS) (points_of side) point
  pub may_be : MayBeBuilt (suc g.DIMS) (points_of side)
  pub three : length point.keys ≡ 3

-- A part that stands, whose pages are named once, may take this point.
pub record MayTake {B : Type 0} (g : Ghosts B) (pages : PageMap) (n : ℕ) (part : Part) (point : Point) : Type 0 where
  pub stood : PartStands g pages n part
  pub once : NamesNoneTwice (part_pages g pages part)
  pub new : IsNewPoint (suc g.DIMS) (points_of part) point
  pub may_be : MayBeBuilt (suc g.DIMS) (points_of part)
  pub three : length point.keys ≡ 3

-- The part has one point more, and the map changed exactly by its pages.
pub record IsAdded {B : Type 0} (g : Ghosts B) (before after : PageMap) (n : ℕ) (part grown : Part) (point : Point) : Type 0 where
  pub stood : PartStands g after (n + 1) grown
  pub points : IsPermutation (points_of grown) (point ∷ points_of part)
  pub change : Replaces (part_pages g before part) (part_pages g after grown) before after
  pub once : NamesNoneTwice (part_pages g after grown)
  pub balance : PartBalanced g before part → PartBalanced g after grown

-- A part has one point more, and these nodes are its.
pub record IsAddedAs {B : Type 0} (g : Ghosts B) (before after : PageMap) (n : ℕ) (part : Part) (point : Point) (nodes : List CutNode) : Type 0 where
  pub grown : Part
  pub added : IsAdded g before after n part grown point
  pub nodes_are : nodes_of grown ≡ nodes

-- In these nodes, between a front and the others, stands a part that has one point more.
pub record IsGrownIn {B : Type 0} (g : Ghosts B) (before after : PageMap) (n : ℕ) (part : Part) (point : Point) (nodes front rest : List CutNode) : Type 0 where
  pub grown : Part
  pub added : IsAdded g before after n part grown point
  pub nodes_are : nodes ≡ front ++ (nodes_of grown ++ rest)

-- The nodes of a page, which spelled a part inside it, went elsewhere: the same points and cuts, and the map changed exactly by
-- the pages.
pub record IsMovedAs {B : Type 0} (g : Ghosts B) (before after : PageMap) (n page : ℕ) (part : Part) (nodes : List CutNode) : Type 0 where
  pub moved : Part
  pub stood : PartStands g after n moved
  pub points : points_of moved ≡ points_of part
  pub change : Replaces (page ∷ part_pages g before part) (part_pages g after moved) before after
  pub once : NamesNoneTwice (part_pages g after moved)
  pub balance : PartBalanced g before part → PartBalanced g after moved
  pub nodes_are : nodes_of moved ≡ nodes

-- An entry with which the nodes begin then was the first node before, where its page was in the map and is none that may be changed.
abbrev pub MayBegin : (ℕ → Type 0) → PageMap → List CutNode → List CutNode → Type 0
MayBegin may pages old new = (child : ℕ) (others : List CutNode) → new ≡ Entry child ∷ others → IsSome (pages child) → ¬ may child
    → (before : List CutNode) × (old ≡ Entry child ∷ before)

-- what an addition below a page asks for is nodes of a page
abbrev pub ChangeFits : Change → Type 0
ChangeFits Same = Unit {0}
ChangeFits (Moved page) = 3 ≤ page
ChangeFits (Raised cut low high) = (cut_one cut ≡ 1) × IsTrue (node_fits cut) × IsNodeTyped cut × (3 ≤ low) × (3 ≤ high)

-- What was asked for was put into the place of an entry.
abbrev pub IsTaken : List CutNode → List CutNode → ℕ → Change → Type 0
IsTaken nodes grown place Same = grown ≡ nodes
IsTaken nodes grown place (Moved page) = grown ≡ take place nodes ++ (Entry page ∷ after_parts 1 (drop place nodes))
IsTaken nodes grown place (Raised cut low high) = grown ≡ insert (insert (slice_set nodes place (Entry high)) place (Entry low)) place cut
