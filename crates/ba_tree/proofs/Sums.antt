-- The sum of a part, from those of its sides, and of points in any order.
use Rattle.std.proofs.Common.{◌≡◌, ℕ, suc, ◌+◌, ◌-◌, ◌%◌, ◌^◌, ◌<◌, ◌≤◌, Option, Some, None, Result, Err, List, [], ◌∷◌, ◌++◌, length, slice_index, if◌then◌else◌, inl, inr, refl, sym, ap, ◌∙◌, subst, arith, append-nil}
use Rattle.std.specs.Prelude.{IsPermutation}
use Rattle.std.proofs.lemmas.Bool.{cases_lt}
use Rattle.std.proofs.lemmas.List.Sorted.{sum_by-IsPermutation}
use Rattle.bw_types.specs.Without.{keys_without, without_dimension}
use Rattle.bw_types.specs.Dominance.{dominance_sum, is_dominated}
use Rattle.bw_types.specs.declared.point.Point.{Point}
use Rattle.bw_types.specs.declared.tree.Tree.{Tree}
use Rattle.ports.specs.Pages.{PageMap}
use Rattle.ports.specs.declared.page.PageFault.{PageFault}
use Rattle.ports.specs.declared.page.PageFault.TheVariants.{Damaged, Disk}
use Rattle.page_layout.specs.declared.cut_page.CutNode.{CutNode}
use Rattle.cut_parts.specs.Borders.{IsSum}
use Rattle.cut_parts.specs.Parts.{Part, Leaf, Split, border_points, points_of}
use Rattle.cut_parts.specs.Spelling.{HoldsCuts, HoldsLeaf, first_page, is_cuts, is_leaf, nodes_in, nodes_of, points_in}
use Rattle.cut_parts.specs.Damage.{IsSoundCut}
use Rattle.cut_parts.specs.Standing.{HaveLaws, PartBalanced, PartStands}
use Rattle.cut_parts.specs.declared.border_tree.BorderTree.{Ghosts}
use Rattle.cut_parts.proofs.Depths.{parts_are_counted}
use Rattle.cut_parts.proofs.Halves.{length_mapped}
use Rattle.cut_parts.proofs.PartNodes.{IsCutOf, holds_one}
use Rattle.cut_parts.proofs.Sums.{sum_below_cut, sum_from_cut, sum_by_parts}
use Rattle.cut_parts.proofs.Values.{enough_keys}

-- the order of points does not count
pub sum_any_order : (dims : ℕ) (xs ys : List Point) (keys : List ℕ) (version : ℕ) → IsPermutation xs ys
    → dominance_sum dims xs keys version ≡ dominance_sum dims ys keys version
sum_any_order dims xs ys keys version p =
    ap (λ (n : ℕ). n % 2 ^ 128) (sym (sum_by-IsPermutation (λ (q : Point). if is_dominated dims keys version q then q.weight else 0) xs ys p))

-- the sum of no points
pub sum_of_none : (dims : ℕ) (points : List Point) (keys : List ℕ) (version : ℕ) → length points ≡ 0 → dominance_sum dims points keys version ≡ 0
sum_of_none dims [] keys version none = refl
sum_of_none dims (p ∷ points) keys version none = absurd (omega (arith, none))

-- A sum that is refused tells of no total.
pub any_total : (fault : PageFault) (a b : ℕ) → IsSum (Err fault) a → IsSum (Err fault) b
any_total Disk a b is = tt
any_total (Damaged page) a b is = is

-- a part has a node
pub some_node : (part : Part) (nodes rest : List CutNode) → nodes ≡ [] → nodes ≡ nodes_of part ++ rest → ⊥
some_node (Leaf page points) nodes rest none is = cc
some_node (Split (Some page) dimension key low border low_side high_side) nodes rest none is = cc
some_node (Split None dimension key low border low_side high_side) nodes rest none is = cc

module _ {B : Type 0} (g : Ghosts B) (m : PageMap) where
  abbrev Stands : ℕ → Part → Type 0
  Stands n part = PartStands g m n part

  low_stands : (home : Option ℕ) (dimension key low n : ℕ) (border : Tree) (low_side high_side : Part)
      → Stands n (Split home dimension key low border low_side high_side) → Stands low low_side
  low_stands home dimension key low n border low_side high_side s =
      record { shape = s.shape.1; parted = s.parted.3; borders = s.borders.2; spelled = s.spelled.1 }

  high_stands : (home : Option ℕ) (dimension key low n : ℕ) (border : Tree) (low_side high_side : Part)
      → Stands n (Split home dimension key low border low_side high_side) → Stands (n - low) high_side
  high_stands home dimension key low n border low_side high_side s =
      record { shape = s.shape.2; parted = s.parted.4; borders = s.borders.3; spelled = s.spelled.2 }

  -- the points of a part of at most 64 that begins with this page
  pub leaf_at : (part : Part) (page n : ℕ) (points : List Point) → first_page part ≡ Some page → n ≤ 64 → HoldsLeaf m page points → Stands n part
      → points ≡ points_of part
  leaf_at (Split home dimension key low border low_side high_side) page n points begins few holds s =
      let many = s.shape.0.many in
      absurd (omega (arith, few, many))
  leaf_at (Leaf first others) page n points begins few holds s =
      let same : first ≡ page = cc in
      holds_one is_leaf points_in m page points others holds (subst (λ (p : ℕ). HoldsLeaf m p others) same s.spelled)

  -- the sum of a cut, at keys below it
  pub cut_below : (part : Part) (dimension key low n version : ℕ) (border : Tree) (nodes rest : List CutNode) (keys : List ℕ) (result : Result ℕ PageFault)
      → (c : IsCutOf part dimension key low border nodes rest) → suc g.DIMS ≤ length keys → suc g.DIMS ≤ 3 → slice_index keys dimension < key
      → (Stands low c.low_side → IsSum result (dominance_sum (suc g.DIMS) (points_of c.low_side) keys version))
      → Stands n part → IsSum result (dominance_sum (suc g.DIMS) (points_of part) keys version)
  cut_below part dimension key low n version border nodes rest keys result c l few below sum =
      let dims : ℕ = suc g.DIMS in
      subst (λ (p : Part). Stands n p → IsSum result (dominance_sum dims (points_of p) keys version)) (sym c.is)
      (λ s. subst (λ (t : ℕ). IsSum result t)
      (sym (sum_below_cut dims dimension key version keys (points_of c.low_side) (points_of c.high_side) s.parted.0 l (enough_keys dims dims c.high_side s.parted.4 few) s.parted.2 below))
      (sum (low_stands None dimension key low n border c.low_side c.high_side s)))

  -- the sum of a cut, from it on
  pub cut_from : (part : Part) (dimension key low n version : ℕ) (border : Tree) (nodes rest : List CutNode) (keys : List ℕ) (below above : ℕ)
      → (c : IsCutOf part dimension key low border nodes rest) → suc g.DIMS ≤ length keys → suc g.DIMS ≤ 3 → key ≤ slice_index keys dimension
      → (low ≤ 64 → Stands low c.low_side → below ≡ dominance_sum (suc g.DIMS) (points_of c.low_side) keys version)
      → (64 < low → g.stands m border (border_points dimension (points_of c.low_side))
      → below ≡ dominance_sum g.DIMS (border_points dimension (points_of c.low_side)) (keys_without dimension keys) version)
      → (Stands (n - low) c.high_side → above ≡ dominance_sum (suc g.DIMS) (points_of c.high_side) keys version)
      → Stands n part → (below + above) % 2 ^ 128 ≡ dominance_sum (suc g.DIMS) (points_of part) keys version
  cut_from part dimension key low n version border nodes rest keys below above c l few from leaf edge high =
      let dims : ℕ = suc g.DIMS in
      subst (λ (p : Part). Stands n p → (below + above) % 2 ^ 128 ≡ dominance_sum dims (points_of p) keys version) (sym c.is)
      (λ s.
      let above_is = high (high_stands None dimension key low n border c.low_side c.high_side s) in
      elim (cases_lt 64 low) [
        | inl many ↦
            let below_is = edge many (s.borders.1 many) in
            rw (below_is, above_is) (sym (sum_from_cut g.DIMS dimension key version keys (points_of c.low_side) (points_of c.high_side) s.parted.0 l (enough_keys dims dims c.low_side s.parted.3 few) s.parted.1 from))
        | inr leaves ↦
            let below_is = leaf leaves (low_stands None dimension key low n border c.low_side c.high_side s) in
            rw (below_is, above_is) (sym (sum_by_parts dims version keys (points_of c.low_side) (points_of c.high_side)))
      ])

  -- a cut whose low side was refused, and one whose high side was
  pub refused_low : (part : Part) (dimension key low n : ℕ) (border : Tree) (nodes rest : List CutNode) (fault : PageFault) (leaves edges total : ℕ)
      → (c : IsCutOf part dimension key low border nodes rest) → (low ≤ 64 → Stands low c.low_side → IsSum (Err fault) leaves)
      → (64 < low → g.stands m border (border_points dimension (points_of c.low_side)) → IsSum (Err fault) edges) → Stands n part → IsSum (Err fault) total
  refused_low part dimension key low n border nodes rest fault leaves edges total c leaf edge =
      subst (λ (p : Part). Stands n p → IsSum (Err fault) total) (sym c.is) (λ s.
      elim (cases_lt 64 low) [
        | inl many ↦ any_total fault edges total (edge many (s.borders.1 many))
        | inr few ↦ any_total fault leaves total (leaf few (low_stands None dimension key low n border c.low_side c.high_side s))
      ])

  pub refused_high : (part : Part) (dimension key low n : ℕ) (border : Tree) (nodes rest : List CutNode) (fault : PageFault) (highs total : ℕ)
      → (c : IsCutOf part dimension key low border nodes rest) → (Stands (n - low) c.high_side → IsSum (Err fault) highs) → Stands n part → IsSum (Err fault) total
  refused_high part dimension key low n border nodes rest fault highs total c high =
      subst (λ (p : Part). Stands n p → IsSum (Err fault) total) (sym c.is) (λ s.
      any_total fault highs total (high (high_stands None dimension key low n border c.low_side c.high_side s)))

  -- The cut of a part that stands is sound.
  pub cut_sound : HaveLaws g → (part : Part) (dimension key low n : ℕ) (border : Tree) (nodes rest : List CutNode)
      → (c : IsCutOf part dimension key low border nodes rest) → Stands n part → IsSoundCut (suc g.DIMS) n dimension low border
  cut_sound laws part dimension key low n border nodes rest c =
      subst (λ (p : Part). Stands n p → IsSoundCut (suc g.DIMS) n dimension low border) (sym c.is) (λ s.
      record {
        in_dims = s.parted.0;
        balanced = s.shape.0;
        few = s.borders.0;
        many = λ more.
            let told = laws.counted m border (border_points dimension (points_of c.low_side)) (s.borders.1 more) in
            let same = length_mapped (without_dimension dimension) (points_of c.low_side) in
            let counted = parts_are_counted c.low_side low s.shape.1 in
            told ∙ same ∙ sym counted;
      })

  -- A part of more than 64 points that begins with this page is a cut, whose nodes the page holds.
  pub record IsCutAt (page n : ℕ) (part : Part) (nodes : List CutNode) : Type 0 where
    pub cut : Part
    pub nodes_are : nodes ≡ nodes_of cut ++ []
    pub inside : first_page cut ≡ None
    pub stands : Stands n cut
    pub points : points_of cut ≡ points_of part
    pub borders : PartBalanced g m part → PartBalanced g m cut

  pub cut_at : (part : Part) (page n : ℕ) (nodes : List CutNode) → first_page part ≡ Some page → 64 < n → HoldsCuts m page nodes
      → Stands n part → IsCutAt page n part nodes
  cut_at (Leaf first points) page n nodes begins many holds s = absurd (omega (arith, s.shape, many))
  cut_at (Split None dimension key low border low_side high_side) page n nodes begins many holds s = absurd cc
  cut_at (Split (Some first) dimension key low border low_side high_side) page n nodes begins many holds s =
      let cut : Part = Split None dimension key low border low_side high_side in
      let same : first ≡ page = cc in
      let there : HoldsCuts m page (nodes_of cut) = subst (λ (p : ℕ). HoldsCuts m p (nodes_of cut)) same s.spelled.0 in
      record {
        cut = cut;
        nodes_are = holds_one is_cuts nodes_in m page nodes (nodes_of cut) holds there ∙ sym (append-nil (nodes_of cut));
        inside = refl;
        stands = record { shape = s.shape; parted = s.parted; borders = s.borders; spelled = (tt, s.spelled.1, s.spelled.2) };
        points = refl;
        borders = λ b. b;
      }
