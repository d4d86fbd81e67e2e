-- The nodes of a part tell it.
use Rattle.std.proofs.Common.{◌≡◌, ℕ, zero, suc, ◌-◌, ◌*◌, ◌≤◌, Option, Some, None, List, [], ◌∷◌, ◌++◌, refl, sym, ap, ◌∙◌, arith, append_assoc, append-nil}
use Rattle.std.proofs.lemmas.Bool.{le-leb, lt-leb}
use Rattle.std.specs.Option.{option_map_or}
use Rattle.bw_types.specs.declared.tree.Tree.{Tree}
use Rattle.ports.specs.Pages.{PageMap}
use Rattle.cut_parts.specs.Parts.{Part, Leaf, Split, HasShape}
use Rattle.cut_parts.specs.Spelling.{Holds, IsSpelled, at_page, is_cuts, is_leaf, nodes_in, nodes_of, part_in, points_in}
use Rattle.page_layout.specs.declared.cut_page.CutNode.{CutNode}
use Rattle.page_layout.specs.declared.cut_page.CutNode.TheVariants.{Cut}

-- what a page holds is what it may spell
held : {V : Type 0} (spells : List ℕ → Type 0) (value_in : List ℕ → V) (pages : PageMap) (page : ℕ) (value d : V) → Holds spells value_in pages page value
    → option_map_or value_in (pages page) d ≡ value
held spells value_in pages page value d h = ap (λ (o : Option (List ℕ)). option_map_or value_in o d) h.there ∙ h.is

module _ (pages : PageMap) where
  abbrev told : ℕ → ℕ → List CutNode → Part × List CutNode
  told = part_in pages

  abbrev Spelled : Part → Type 0
  Spelled part = IsSpelled pages part

  -- a cut, from its sides
  of_sides : (dimension key low n steps : ℕ) (border : Tree) (low_side high_side : Part) (rest : List CutNode)
      → told steps low (nodes_of low_side ++ (nodes_of high_side ++ rest)) ≡ (low_side, nodes_of high_side ++ rest)
      → told steps (n - low) (nodes_of high_side ++ rest) ≡ (high_side, rest)
      → told (suc steps) n (Cut dimension key low border ∷ ((nodes_of low_side ++ nodes_of high_side) ++ rest)) ≡ (Split None dimension key low border low_side high_side, rest)
  of_sides dimension key low n steps border low_side high_side rest first second =
      ap (λ (ns : List CutNode). told (suc steps) n (Cut dimension key low border ∷ ns)) (append_assoc (nodes_of low_side) (nodes_of high_side) rest)
      ∙ ap (λ (x : Part × List CutNode). let y : Part × List CutNode = told steps (n - low) x.1 in
      let z : Part × List CutNode = (Split None dimension key low border x.0 y.0, y.1) in z) first
      ∙ ap (λ (y : Part × List CutNode). let z : Part × List CutNode = (Split None dimension key low border low_side y.0, y.1) in z) second

  pub told_part : (steps n : ℕ) (part : Part) (rest : List CutNode) → 2 * n ≤ steps → HasShape n part → Spelled part
      → told steps n (nodes_of part ++ rest) ≡ (part, rest)
  told_part zero n (Leaf page points) rest few shape s = absurd (omega (arith, shape, few))
  told_part (suc steps) n (Leaf page points) rest few shape s =
      rw (le-leb n 64 shape.2, held is_leaf points_in pages page points [] s) refl
  told_part zero n (Split home dimension key low border low_side high_side) rest few shape s = let m = shape.0.many in absurd (omega (arith, m, few))
  told_part (suc steps) n (Split None dimension key low border low_side high_side) rest few shape s =
      let cut = shape.0 in
      of_sides dimension key low n steps border low_side high_side rest
      (told_part steps low low_side (nodes_of high_side ++ rest) (omega (arith, cut.some_high, few)) shape.1 s.1)
      (told_part steps (n - low) high_side rest (omega (arith, cut.some_low, cut.some_high, few)) shape.2 s.2)
  told_part (suc zero) n (Split (Some page) dimension key low border low_side high_side) rest few shape s = let m = shape.0.many in absurd (omega (arith, m, few))
  told_part (suc (suc steps)) n (Split (Some page) dimension key low border low_side high_side) rest few shape s =
      let cut = shape.0 in
      let nodes : List CutNode = Cut dimension key low border ∷ (nodes_of low_side ++ nodes_of high_side) in
      let inner : told (suc steps) n (nodes ++ []) ≡ (Split None dimension key low border low_side high_side, []) =
      of_sides dimension key low n steps border low_side high_side []
      (told_part steps low low_side (nodes_of high_side ++ []) (omega (arith, cut.some_high, few)) shape.1 s.1)
      (told_part steps (n - low) high_side [] (omega (arith, cut.some_low, cut.some_high, few)) shape.2 s.2) in
      let whole : told (suc steps) n nodes ≡ (Split None dimension key low border low_side high_side, []) = ap (λ (ns : List CutNode). told (suc steps) n ns) (sym (append-nil nodes)) ∙ inner in
      rw (lt-leb n 64 cut.many, held is_cuts nodes_in pages page nodes [] s.0)
      (ap (λ (x : Part × List CutNode). let z : Part × List CutNode = (at_page (Some page) x.0, rest) in z) whole)
