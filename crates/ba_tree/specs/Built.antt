-- Parts that are built of points.
use Rattle.std.specs.Prelude.{◌≡◌, ℕ, ◌++◌, Some, List, [], length, IsPermutation}
use Rattle.bw_types.specs.declared.point.Point.{Point}
use Rattle.ports.specs.Frame.{Replaces}
use Rattle.ports.specs.Pages.{PageMap}
use Rattle.page_layout.specs.Footprint.{NamesNoneTwice}
use Rattle.page_layout.specs.declared.cut_page.CutNode.{CutNode}
use Rattle.cut_parts.specs.Parts.{Part, points_of}
use Rattle.cut_parts.specs.Spelling.{first_page, nodes_of}
use Rattle.cut_parts.specs.Standing.{PartBalanced, PartStands, part_pages}
use Rattle.cut_parts.specs.declared.border_tree.BorderTree.{Ghosts}

-- The part was built of the points: it keeps them in some order, its borders are balanced, its pages are new and named once, and
-- no other page changed.
pub record IsBuiltPart {B : Type 0} (g : Ghosts B) (points : List Point) (before after : PageMap) (part : Part) : Type 0 where
  pub stood : PartStands g after (length points) part
  pub balance : PartBalanced g after part
  pub kept : IsPermutation (points_of part) points
  pub change : Replaces [] (part_pages g after part) before after
  pub once : NamesNoneTwice (part_pages g after part)

-- A part that begins with this page was built.
pub record IsBuiltAt {B : Type 0} (g : Ghosts B) (points : List Point) (before after : PageMap) (page : ℕ) : Type 0 where
  pub part : Part
  pub is : IsBuiltPart g points before after part
  pub begins : first_page part ≡ Some page

-- A part was built whose nodes stand last among those of a page.
pub record IsBuiltBehind {B : Type 0} (g : Ghosts B) (points : List Point) (before after : PageMap) (nodes grown : List CutNode) : Type 0 where
  pub part : Part
  pub is : IsBuiltPart g points before after part
  pub nodes_are : grown ≡ nodes ++ nodes_of part
