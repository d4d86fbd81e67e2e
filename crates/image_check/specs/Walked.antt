-- What a walk over the parts of a tree finds.
use Rattle.std.specs.Prelude.{◌≡◌, ℕ, ◌<◌, List, ◌++◌, slice_index, IsPermutation}
use Rattle.std.specs.List.{All}
use Rattle.bw_types.specs.declared.point.Point.{Point}
use Rattle.bw_types.specs.declared.tree.Tree.{Tree}
use Rattle.ports.specs.Pages.{PageMap}
use Rattle.page_layout.specs.declared.cut_page.CutNode.{CutNode}
use Rattle.cut_parts.specs.Parts.{Part, border_points, points_of}
use Rattle.cut_parts.specs.Spelling.{nodes_of}
use Rattle.cut_parts.specs.Standing.{PartBalanced, PartStands, part_pages}
use Rattle.cut_parts.specs.declared.border_tree.BorderTree.{Ghosts}

-- A part of n points stands and is balanced; its points were put behind those found before, and its pages, in any order, behind
-- those named before.
pub record IsWalked {B : Type 0} (g : Ghosts B) (pages : PageMap) (n : ℕ) (part : Part) (old new : List Point) (before after : List ℕ) : Type 0 where
  pub stands : PartStands g pages n part
  pub balance : PartBalanced g pages part
  pub points : new ≡ old ++ points_of part
  pub names : IsPermutation (before ++ part_pages g pages part) after

-- The nodes begin with those of such a part.
pub record BeginWalked {B : Type 0} (g : Ghosts B) (pages : PageMap) (n : ℕ) (nodes : List CutNode) (old new : List Point) (before after : List ℕ) : Type 0 where
  pub part : Part
  pub rest : List CutNode
  pub nodes_are : nodes ≡ nodes_of part ++ rest
  pub is : IsWalked g pages n part old new before after

-- The nodes do not begin with those of a part of n points that stands and is balanced.
abbrev pub BeginWithNone : {B : Type 0} → Ghosts B → PageMap → ℕ → List CutNode → Type 0
BeginWithNone g pages n nodes = (part : Part) (rest : List CutNode) → nodes ≡ nodes_of part ++ rest → PartStands g pages n part → PartBalanced g pages part → ⊥

-- The points may be those of the low side of a cut: each has a key below the cut's, and where they are more than a leaf takes, the border
-- stands for them, without the cut's dimension, and is balanced.
pub record AreLow {B : Type 0} (g : Ghosts B) (pages : PageMap) (dimension key low : ℕ) (border : Tree) (points : List Point) : Type 0 where
  pub below : All (λ p. slice_index p.keys dimension < key) points
  pub stood : 64 < low → g.stands pages border (border_points dimension points)
  pub balance : 64 < low → g.balanced pages border
