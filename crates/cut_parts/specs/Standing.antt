-- When a tree of cuts stands for points.
--
-- The borders of the cuts are trees of one dimension less; what is asked of them is their kind's to say.
use Rattle.std.specs.Prelude.{◌≡◌, ℕ, suc, ◌+◌, ◌*◌, ◌<◌, ◌≤◌, nat_le, ◌==◌, if◌then◌else◌, Some, List, [], ◌∷◌, length, IsPermutation}
use Rattle.bw_types.specs.Empty.{empty_tree}
use Rattle.bw_types.specs.declared.point.Point.{Point}
use Rattle.bw_types.specs.declared.tree.Tree.{Tree}
use Rattle.ports.specs.Pages.{PageMap}
use Rattle.page_layout.specs.Footprint.{NamesNoneTwice}
use Rattle.page_layout.specs.declared.cut_page.CutNode.TheVariants.{Entry}
use Rattle.cut_parts.specs.Borders.{HoldForTrees, MayBeBuilt}
use Rattle.bw_types.specs.Depths.{growth_above, reads_within, share_above}
use Rattle.cut_parts.specs.Parts.{Part, Leaf, Split, BordersStand, HasShape, IsParted, points_of}
use Rattle.cut_parts.specs.Spelling.{IsSpelled, first_page, pages_of, part_in}
use Rattle.cut_parts.specs.declared.border_tree.BorderTree.{Ghosts}

-- the number of dimensions of trees with these borders
abbrev pub dims_above : {B : Type 0} → Ghosts B → ℕ
dims_above g = suc g.DIMS

-- A part of n points stands in the pages: it has the shape that n points have, its cuts part its points, each border stands for
-- those of its low side, and the pages spell it.
pub record PartStands {B : Type 0} (g : Ghosts B) (pages : PageMap) (n : ℕ) (part : Part) : Type 0 where
  pub shape : HasShape n part
  pub parted : IsParted (suc g.DIMS) part
  pub borders : BordersStand (g.stands pages) part
  pub spelled : IsSpelled pages part

-- the pages of a part, with those of its borders
abbrev pub part_pages : {B : Type 0} → Ghosts B → PageMap → Part → List ℕ
part_pages g pages part = pages_of (g.footprint pages) part

-- Each border that is not empty is balanced.
abbrev pub BordersBalanced : (Tree → Type 0) → Part → Type 0
BordersBalanced balanced (Leaf page points) = Unit {0}
BordersBalanced balanced (Split home dimension key low border low_side high_side) =
    (64 < low → balanced border) × BordersBalanced balanced low_side × BordersBalanced balanced high_side

abbrev pub PartBalanced : {B : Type 0} → Ghosts B → PageMap → Part → Type 0
PartBalanced g pages part = BordersBalanced (g.balanced pages) part

-- the level byte of a tree of n points: 0 where it is empty, 1 where it is a leaf, and 2 where it has a cut
abbrev pub levels_of : ℕ → ℕ
levels_of n = if n == 0 then 0 else (if nat_le n 64 then 1 else 2)

-- the part that is all of a tree, as its pages tell it
abbrev pub tree_part : PageMap → Tree → Part
tree_part pages tree = (part_in pages (2 * tree.count) tree.count (Entry tree.root ∷ [])).0

-- the pages of a tree
abbrev pub tree_pages : {B : Type 0} → Ghosts B → PageMap → Tree → List ℕ
tree_pages g pages tree = if tree.count == 0 then [] else part_pages g pages (tree_part pages tree)

-- The part keeps the points of the tree, in any order, and begins with its root.
pub record IsPartOf {B : Type 0} (g : Ghosts B) (pages : PageMap) (tree : Tree) (points : List Point) (part : Part) : Type 0 where
  pub stood : PartStands g pages tree.count part
  pub begins : first_page part ≡ Some tree.root
  pub kept : IsPermutation (points_of part) points

-- The tree keeps exactly the points, in any order: no two share a key in a dimension, they lie where keys may, and the part from
-- its root on keeps them. It names none of its pages twice.
pub record CutsStand {B : Type 0} (g : Ghosts B) (pages : PageMap) (tree : Tree) (points : List Point) : Type 0 where
  pub count : tree.count ≡ length points
  pub may_be : MayBeBuilt (suc g.DIMS) points
  pub levels : tree.levels ≡ levels_of (length points)
  pub changes : tree.changes ≡ 0
  pub last : tree.last ≡ 0
  pub none : length points ≡ 0 → tree ≡ empty_tree
  pub part : 1 ≤ length points → (part : Part) × IsPartOf g pages tree points part
  pub once : NamesNoneTwice (tree_pages g pages tree)

-- Each border of the tree is balanced. The balance of its cuts is a part of standing.
abbrev pub CutsBalanced : {B : Type 0} → Ghosts B → PageMap → Tree → Type 0
CutsBalanced g pages tree = 1 ≤ tree.count → PartBalanced g pages (tree_part pages tree)

-- What holds of the borders.
abbrev pub HaveLaws : {B : Type 0} → Ghosts B → Type 0
HaveLaws g = HoldForTrees g.stands g.footprint g.balanced g.cost g.growth g.share

-- the most gets of a sum, the most page numbers of an addition, and the most a point of building, from the number of points
abbrev pub cuts_cost : {B : Type 0} → Ghosts B → ℕ → ℕ
cuts_cost g n = reads_within g.cost n n

abbrev pub cuts_growth : {B : Type 0} → Ghosts B → ℕ → ℕ
cuts_growth g n = 3 + growth_above g.growth g.share n

abbrev pub cuts_share : {B : Type 0} → Ghosts B → ℕ → ℕ
cuts_share g n = share_above g.share n
