-- The part that is all of a tree.
use Rattle.std.specs.Prelude.{ℕ, List, ◌++◌, IsPermutation}
use Rattle.bw_types.specs.declared.point.Point.{Point}
use Rattle.bw_types.specs.declared.tree.Tree.{Tree}
use Rattle.ports.specs.Pages.{PageMap}
use Rattle.page_layout.specs.Footprint.{NamesNoneTwice}
use Rattle.cut_parts.specs.Parts.{Part}
use Rattle.cut_parts.specs.Standing.{IsPartOf, PartBalanced, part_pages}
use Rattle.cut_parts.specs.declared.border_tree.BorderTree.{Ghosts}

-- The part is that of a tree of the points: it stands, is balanced, and names none of its pages twice.
pub record IsWhole {B : Type 0} (g : Ghosts B) (pages : PageMap) (tree : Tree) (points : List Point) (part : Part) : Type 0 where
  pub of_tree : IsPartOf g pages tree points part
  pub balance : PartBalanced g pages part
  pub once : NamesNoneTwice (part_pages g pages part)

-- There is such a part, and its pages were put, in any order, behind those named before.
pub record HasWhole {B : Type 0} (g : Ghosts B) (pages : PageMap) (tree : Tree) (points : List Point) (before after : List ℕ) : Type 0 where
  pub part : Part
  pub is : IsWhole g pages tree points part
  pub names : IsPermutation (before ++ part_pages g pages part) after
