-- A walk along a chain.
use Rattle.std.proofs.Common.{◌≡◌, ◌≢◌, ℕ, zero, suc, inl, inr, subst, ◌+◌, ◌-◌, ◌%◌, ◌^◌, ◌<◌, ◌≤◌, List, Some, sym, ap, ◌∙◌, arith}
use Rattle.bw_types.specs.Dominance.{dominated_weight}
use Rattle.bw_types.specs.declared.point.Point.{Point}
use Rattle.ports.specs.Pages.{PageMap}
use Rattle.page_layout.specs.Damage.{NothingBeside}
use Rattle.page_layout.specs.DamageLaws.{damaged_here, damaged_further}
use Rattle.page_layout.specs.PointLeaf.{point_leaf_page}
use Rattle.page_layout.specs.Spelled.{Spells, SpellsNone}
use Rattle.page_layout.specs.declared.point_leaf.PointLeaf.{PointLeaf}
use Rattle.dom_index.specs.Chain.{IsDamagedOn, chain_points, point_pages}
use Rattle.dom_index.proofs.Chains.{points_end}

pub damaged_at : (m now : PageMap) (left page damaged : ℕ) → now ≡ m → 1 ≤ left → damaged ≡ page → SpellsNone point_pages now page → IsDamagedOn m left page damaged
damaged_at m now left page damaged same some here none =
    damaged_here (λ _ _ leaf bytes. Spells point_pages leaf bytes) (λ _ leaf next _. (next ≡ leaf.next) × (next ≢ 0)) NothingBeside m left tt page damaged some here
    (λ leaf bytes there spells. none leaf bytes (ap (λ (f : PageMap). f page) same ∙ there) spells)

pub damaged_next : (m now : PageMap) (left page next damaged : ℕ) (leaf : PointLeaf) → now ≡ m → 1 ≤ left → now page ≡ Some (point_leaf_page leaf)
    → Spells point_pages leaf (point_leaf_page leaf) → next ≡ leaf.next → next ≢ 0 → IsDamagedOn m (left - 1) next damaged → IsDamagedOn m left page damaged
damaged_next m now left page next damaged leaf same some found spells led ne below =
    damaged_further (λ _ _ leaf bytes. Spells point_pages leaf bytes) (λ _ leaf next _. (next ≡ leaf.next) × (next ≢ 0)) NothingBeside m left tt page damaged leaf (point_leaf_page leaf) next tt some
    (ap (λ (f : PageMap). f page) (sym same) ∙ found) spells (led, ne) below

-- A damaged page that a call comes to from a page of points on, it comes to from the next one.
pub damaged_past : (m now : PageMap) (left page next damaged : ℕ) (leaf : PointLeaf) → now ≡ m
    → now page ≡ Some (point_leaf_page leaf) → Spells point_pages leaf (point_leaf_page leaf)
    → ((other : PointLeaf) (bytes : List ℕ) → now page ≡ Some bytes → Spells point_pages other bytes → leaf ≡ other)
    → next ≡ leaf.next → IsDamagedOn m left page damaged → (next ≢ 0) × IsDamagedOn m (left - 1) next damaged
damaged_past m now zero page next damaged leaf same found spells only led d = absurd d
damaged_past m now (suc left) page next damaged leaf same found spells only led (inl d) =
    absurd (d.1 leaf (point_leaf_page leaf) (ap (λ (f : PageMap). f page) (sym same) ∙ found) spells)
damaged_past m now (suc left) page next damaged leaf same found spells only led (inr (inl d)) = absurd d.4
damaged_past m now (suc left) page next damaged leaf same found spells only led (inr (inr d)) =
    let leaf_is : leaf ≡ d.0 = only d.0 d.1 (ap (λ (f : PageMap). f page) same ∙ d.4) d.5 in
    let next_is : d.2 ≡ next = d.6.0 ∙ sym (ap (λ (l : PointLeaf). l.next) leaf_is) ∙ sym led in
    let less : left ≡ suc left - 1 = omega arith in (
      (λ none. d.6.1 (next_is ∙ none)),
      subst (λ (n : ℕ). IsDamagedOn m n next damaged) less (subst (λ (q : ℕ). IsDamagedOn m left q damaged) next_is d.7),
    )

-- the walk is at its end
pub sum_end : (dims : ℕ) (keys : List ℕ) (version total left : ℕ) (m : PageMap) (page whole : ℕ) → page ≡ 0 → total < 2 ^ 128
    → (total + dominated_weight dims (chain_points left m page) keys version) % 2 ^ 128 ≡ whole → total ≡ whole
sum_end dims keys version total left m page whole e fits h =
    let none : dominated_weight dims (chain_points left m page) keys version ≡ 0 = ap (λ (ps : List Point). dominated_weight dims ps keys version) (points_end left m page e) in
    omega (arith, none, fits, h)

pub found_on : (now m : PageMap) (page : ℕ) (bytes : List ℕ) → now ≡ m → now page ≡ Some bytes → m page ≡ Some bytes
found_on now m page bytes same found = ap (λ (f : PageMap). f page) (sym same) ∙ found
