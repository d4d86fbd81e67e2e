-- The pages read for a cut, from those read for its sides.
use Rattle.std.proofs.Common.{◌≡◌, ℕ, zero, suc, ◌+◌, ◌-◌, ◌<◌, ◌≤◌, List, length, inl, inr, sym, subst, arith}
use Rattle.std.proofs.lemmas.Bool.{cases_lt}
use Rattle.bw_types.specs.DepthLaws.{reads_low, within_step}
use Rattle.bw_types.specs.Without.{without_dimension}
use Rattle.bw_types.specs.declared.point.Point.{Point}
use Rattle.bw_types.specs.declared.tree.Tree.{Tree}
use Rattle.ports.specs.Pages.{PageMap}
use Rattle.page_layout.specs.declared.cut_page.CutNode.{CutNode}
use Rattle.bw_types.specs.Depths.{IsCost, most_of_side, reads_within}
use Rattle.cut_parts.specs.Parts.{Part, Leaf, Split, HasShape, border_points, points_of}
use Rattle.cut_parts.specs.Standing.{CutsBalanced, IsPartOf, PartBalanced, PartStands, levels_of}
use Rattle.cut_parts.specs.declared.border_tree.BorderTree.{Ghosts}
use Rattle.cut_parts.proofs.Depths.{parts_are_counted}
use Rattle.cut_parts.proofs.Halves.{length_mapped}
use Rattle.cut_parts.proofs.PartNodes.{IsCutOf}
use Rattle.cut_parts.proofs.Trees.{tree_is}

pub some_points : (part : Part) (n : ℕ) → HasShape n part → 1 ≤ n
some_points (Leaf page points) n shape = shape.1
some_points (Split home dimension key low border low_side high_side) n shape = let many = shape.0.many in omega (arith, many)

leaf_reads : (cost : ℕ → ℕ) (n : ℕ) → 1 ≤ n → n ≤ 64 → reads_within cost n n ≡ 1
leaf_reads cost zero some few = absurd (omega (arith, some))
leaf_reads cost (suc n) some few = reads_low cost n (suc n) some few

-- a tree with levels has points
pub some_in_tree : (levels n : ℕ) → levels ≡ levels_of n → (levels ≡ 0 → ⊥) → 1 ≤ n
some_in_tree levels zero is some = absurd (some is)
some_in_tree levels (suc n) is some = omega arith

-- the borders of a tree's part
pub part_balanced : {B : Type 0} (g : Ghosts B) (m : PageMap) (tree : Tree) (points : List Point) (part : Part) → IsPartOf g m tree points part → CutsBalanced g m tree
    → 1 ≤ tree.count → PartBalanced g m part
part_balanced g m tree points part is balanced some = subst (λ (p : Part). PartBalanced g m p) (tree_is g m tree points part is) (balanced some)

module _ {B : Type 0} (g : Ghosts B) (m : PageMap) (is : IsCost g.cost) where
  abbrev Stands : ℕ → Part → Type 0
  Stands n part = PartStands g m n part

  abbrev Balanced : Part → Type 0
  Balanced part = PartBalanced g m part

  abbrev reads : ℕ → ℕ
  reads n = reads_within g.cost n n

  pub cut_cost_low : (part : Part) (dimension key low n : ℕ) (border : Tree) (nodes rest : List CutNode) (old new : ℕ) (c : IsCutOf part dimension key low border nodes rest)
      → (Stands low c.low_side → Balanced c.low_side → new ≤ old + reads low) → Stands n part → Balanced part → new ≤ old + (reads n - 1)
  cut_cost_low part dimension key low n border nodes rest old new c side =
      subst (λ (p : Part). Stands n p → Balanced p → new ≤ old + (reads n - 1)) (sym c.is) (λ s b.
      let inner = side (record { shape = s.shape.1; parted = s.parted.3; borders = s.borders.2; spelled = s.spelled.1 }) b.1 in
      let step = within_step g.cost is n low s.shape.0.many s.shape.0.low_share in
      omega (arith, inner, step))

  pub cut_cost_high : (part : Part) (dimension key low n : ℕ) (border : Tree) (nodes rest : List CutNode) (old mid new : ℕ) (c : IsCutOf part dimension key low border nodes rest)
      → (low ≤ 64 → Stands low c.low_side → Balanced c.low_side → mid ≤ old + reads low)
      → (64 < low → g.stands m border (border_points dimension (points_of c.low_side)) → g.balanced m border → mid ≤ old + g.cost (length (border_points dimension (points_of c.low_side))))
      → (Stands (n - low) c.high_side → Balanced c.high_side → new ≤ mid + reads (n - low)) → Stands n part → Balanced part → new ≤ old + (reads n - 1)
  cut_cost_high part dimension key low n border nodes rest old mid new c leaf edge side =
      subst (λ (p : Part). Stands n p → Balanced p → new ≤ old + (reads n - 1)) (sym c.is) (λ s b.
      let cut = s.shape.0 in
      let many = cut.many in
      let share = cut.low_share in
      let inner = side (record { shape = s.shape.2; parted = s.parted.4; borders = s.borders.3; spelled = s.spelled.2 }) b.2 in
      let step = within_step g.cost is n (n - low) cut.many cut.high_share in
      elim (cases_lt 64 low) [
        | inl more ↦
            let first = edge more (s.borders.1 more) (b.0 more) in
            let counted = parts_are_counted c.low_side low s.shape.1 in
            let same : length (border_points dimension (points_of c.low_side)) ≡ length (points_of c.low_side) = length_mapped (without_dimension dimension) (points_of c.low_side) in
            let grown : g.cost (length (border_points dimension (points_of c.low_side))) ≤ g.cost (most_of_side n) = is.grows _ (most_of_side n) (omega (arith, same, counted, share)) in
            omega (arith, inner, step, first, grown)
        | inr few ↦
            let first = leaf few (record { shape = s.shape.1; parted = s.parted.3; borders = s.borders.2; spelled = s.spelled.1 }) b.1 in
            let one = leaf_reads g.cost low cut.some_low few in
            let some : 1 ≤ g.cost (most_of_side n) = is.some (most_of_side n) (omega (arith, many)) in
            omega (arith, inner, step, first, one, some)
      ])
