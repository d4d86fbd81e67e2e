-- The parts that are left where the pages of others were freed.
use Rattle.std.proofs.Common.{◌≡◌, ℕ, ◌-◌, List, [], ◌∷◌, ◌++◌, sym, ◌∙◌, subst, append_assoc}
use Rattle.bw_types.specs.declared.tree.Tree.{Tree}
use Rattle.ports.specs.Frame.{AgreeOn, AreApart, Replaces}
use Rattle.ports.specs.FrameLaws.{Replaces-agree, Replaces-beside, Replaces-free}
use Rattle.ports.specs.Pages.{PageMap, remove_page}
use Rattle.page_layout.specs.Footprint.{NamesNoneTwice}
use Rattle.page_layout.specs.FootprintLaws.{apart_sym, once_apart, once_left, once_right}
use Rattle.page_layout.specs.declared.cut_page.CutNode.{CutNode}
use Rattle.cut_parts.specs.Parts.{Part}
use Rattle.cut_parts.specs.Standing.{HaveLaws, PartStands, part_pages}
use Rattle.cut_parts.specs.declared.border_tree.BorderTree.{Ghosts}
use Rattle.cut_parts.proofs.Frames.{part_same, part_there}
use Rattle.ba_tree.proofs.Cuts.{AreSides, IsInPage}

-- The part stands as before, and its pages are the same.
pub record IsLeft {B : Type 0} (g : Ghosts B) (a b : PageMap) (n : ℕ) (part : Part) : Type 0 where
  pub stands : PartStands g b n part
  pub pages : part_pages g b part ≡ part_pages g a part
  pub once : NamesNoneTwice (part_pages g b part)

left_beside : {B : Type 0} (g : Ghosts B) → HaveLaws g → (a b : PageMap) (n : ℕ) (part : Part) (freed : List ℕ) → PartStands g a n part
    → NamesNoneTwice (freed ++ part_pages g a part) → Replaces freed [] a b → IsLeft g a b n part
left_beside g laws a b n part freed stands once change =
    let own : List ℕ = part_pages g a part in
    let apart : AreApart own freed = apart_sym freed own (once_apart freed own once) in
    let agree : AgreeOn own a b = Replaces-agree own freed [] a b change (part_there g laws a n part stands) apart in
    let same = part_same g laws a b n part stands agree in
    record { stands = same.0; pages = same.1; once = subst NamesNoneTwice (sym same.1) (once_right freed own once) }

module _ {B : Type 0} (g : Ghosts B) (laws : HaveLaws g) (a : PageMap) (n page : ℕ) (nodes : List CutNode) (part : Part)
    (is : IsInPage g a n page nodes part) (once : NamesNoneTwice (part_pages g a part)) where
  -- what a page of cuts named, where the page was freed
  pub cut_left : (b : PageMap) → b ≡ remove_page a page → IsLeft g a b n is.cut
  cut_left b freed = left_beside g laws a b n is.cut (page ∷ []) is.stands (subst NamesNoneTwice is.pages once)
      (subst (λ (m : PageMap). Replaces (page ∷ []) [] a m) (sym freed) (Replaces-free a page))

  pub page_dropped : (b c : PageMap) → b ≡ remove_page a page → Replaces (part_pages g b is.cut) [] b c → Replaces (part_pages g a part) [] a c
  page_dropped b c freed change =
      let left = cut_left b freed in
      let first : Replaces (page ∷ []) [] a b = subst (λ (m : PageMap). Replaces (page ∷ []) [] a m) (sym freed) (Replaces-free a page) in
      let second : Replaces (part_pages g a is.cut) [] b c = subst (λ (ps : List ℕ). Replaces ps [] b c) left.pages change in
      subst (λ (ps : List ℕ). Replaces ps [] a c) (sym is.pages) (Replaces-beside (page ∷ []) [] (part_pages g a is.cut) [] a b c first second)

module _ {B : Type 0} (g : Ghosts B) (laws : HaveLaws g) (a : PageMap) (n dimension low : ℕ) (border : Tree) (part low_side high_side : Part)
    (sides : AreSides g a n dimension low border part low_side high_side) (once : NamesNoneTwice (part_pages g a part)) where
  in_order : NamesNoneTwice ((g.footprint a border ++ part_pages g a low_side) ++ part_pages g a high_side)
  in_order = subst NamesNoneTwice (sides.pages ∙ sym (append_assoc (g.footprint a border) (part_pages g a low_side) (part_pages g a high_side))) once

  -- the low side, where the border was freed
  pub low_left : (b : PageMap) → Replaces (g.footprint a border) [] a b → IsLeft g a b low low_side
  low_left b change = left_beside g laws a b low low_side (g.footprint a border) sides.low_stands
      (once_left (g.footprint a border ++ part_pages g a low_side) (part_pages g a high_side) in_order) change

  both_dropped : (b c : PageMap) → Replaces (g.footprint a border) [] a b → Replaces (part_pages g b low_side) [] b c
      → Replaces (g.footprint a border ++ part_pages g a low_side) [] a c
  both_dropped b c first second = Replaces-beside (g.footprint a border) [] (part_pages g a low_side) [] a b c first
      (subst (λ (ps : List ℕ). Replaces ps [] b c) (low_left b first).pages second)

  -- the high side, where the border and the low side were freed
  pub high_left : (b c : PageMap) → Replaces (g.footprint a border) [] a b → Replaces (part_pages g b low_side) [] b c → IsLeft g a c (n - low) high_side
  high_left b c first second = left_beside g laws a c (n - low) high_side (g.footprint a border ++ part_pages g a low_side) sides.high_stands
      in_order (both_dropped b c first second)

  pub cut_dropped : (b c d : PageMap) → Replaces (g.footprint a border) [] a b → Replaces (part_pages g b low_side) [] b c
      → Replaces (part_pages g c high_side) [] c d → Replaces (part_pages g a part) [] a d
  cut_dropped b c d first second third =
      let last : Replaces (part_pages g a high_side) [] c d = subst (λ (ps : List ℕ). Replaces ps [] c d) (high_left b c first second).pages third in
      subst (λ (ps : List ℕ). Replaces ps [] a d) (append_assoc (g.footprint a border) (part_pages g a low_side) (part_pages g a high_side) ∙ sym sides.pages)
      (Replaces-beside (g.footprint a border ++ part_pages g a low_side) [] (part_pages g a high_side) [] a c d (both_dropped b c first second) last)
