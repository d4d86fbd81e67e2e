-- A part with another home.
use Rattle.std.proofs.Common.{◌≡◌, ℕ, Option, Some, None, List, [], ◌∷◌, refl}
use Rattle.bw_types.specs.declared.point.Point.{Point}
use Rattle.bw_types.specs.declared.tree.Tree.{Tree}
use Rattle.ports.specs.Pages.{PageMap}
use Rattle.cut_parts.specs.Parts.{Part, Leaf, Split, BordersStand, HasShape, IsParted, points_of}
use Rattle.cut_parts.specs.Spelling.{Holds, IsSpelled, at_page, first_page, is_cuts, nodes_in, nodes_of, pages_of}
use Rattle.page_layout.specs.declared.cut_page.CutNode.TheVariants.{Entry}

pub points_stay : (home : Option ℕ) (part : Part) → points_of (at_page home part) ≡ points_of part
points_stay home (Leaf page points) = refl
points_stay home (Split other dimension key low border low_side high_side) = refl

pub shape_stays : (home : Option ℕ) (n : ℕ) (part : Part) → HasShape n part → HasShape n (at_page home part)
shape_stays home n (Leaf page points) s = s
shape_stays home n (Split other dimension key low border low_side high_side) s = s

pub parted_stays : (home : Option ℕ) (dims : ℕ) (part : Part) → IsParted dims part → IsParted dims (at_page home part)
parted_stays home dims (Leaf page points) s = s
parted_stays home dims (Split other dimension key low border low_side high_side) s = s

pub borders_stay : (stands : Tree → List Point → Type 0) (home : Option ℕ) (part : Part) → BordersStand stands part → BordersStand stands (at_page home part)
borders_stay stands home (Leaf page points) s = s
borders_stay stands home (Split other dimension key low border low_side high_side) s = s

pub more_pages : (page : ℕ) (border_pages : Tree → List ℕ) (part : Part) → first_page part ≡ None
    → pages_of border_pages (at_page (Some page) part) ≡ page ∷ pages_of border_pages part
more_pages page border_pages (Leaf first points) inside = absurd cc
more_pages page border_pages (Split (Some first) dimension key low border low_side high_side) inside = absurd cc
more_pages page border_pages (Split None dimension key low border low_side high_side) inside = refl

pub moved : (a : PageMap) (page : ℕ) (part : Part) → first_page part ≡ None → IsSpelled a part
    → Holds is_cuts nodes_in a page (nodes_of part)
    → IsSpelled a (at_page (Some page) part) × (nodes_of (at_page (Some page) part) ≡ Entry page ∷ [])
moved a page (Leaf first points) inside s holds = absurd cc
moved a page (Split (Some first) dimension key low border low_side high_side) inside s holds = absurd cc
moved a page (Split None dimension key low border low_side high_side) inside s holds = ((holds, s.1, s.2), refl)
