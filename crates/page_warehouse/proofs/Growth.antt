-- The page numbers of one entry more, tree by tree.
use Rattle.std.proofs.Common.{◌≡◌, ℕ, zero, suc, ◌+◌, ◌*◌, ◌<◌, ◌≤◌, nat_lt, refl, sym, subst, arith}
use Rattle.std.proofs.lemmas.Bool.{lt-ltb, le-ltb, cond-true, cond-false}
use Rattle.std.proofs.lemmas.Nat.{mul-le}
use Rattle.bw_types.specs.Depths.{AddingGrows, added_pages}
use Rattle.bw_types.specs.declared.params.Params.{Params}
use Rattle.corner_weights.specs.Planes.{plane_count}
use Rattle.corner_forest.specs.Entries.{corner_count, point_count}
use Rattle.dom_index.specs.Growth.{sum_below}
use Rattle.corner_forest.specs.Enters.{entry_growth, root_growth}
use Rattle.page_warehouse.specs.Growth.{most_growth}

-- sums of which each part has a bound
sum_first : (n : ℕ) (f : ℕ → ℕ) (x : ℕ) → ((i : ℕ) → i < n → f i ≤ x) → sum_below n f ≤ n * x
sum_first zero f x each = omega arith
sum_first (suc n) f x each =
    let rest = sum_first n f x (λ i lt. each i (omega arith)) in
    let last = each n (omega arith) in
    omega (arith, rest, last)

sum_both : (a n m : ℕ) (f : ℕ → ℕ) (x y : ℕ) → m ≡ a + n → ((i : ℕ) → i < a → f i ≤ x) → ((i : ℕ) → a ≤ i → f i ≤ y) → sum_below m f ≤ a * x + n * y
sum_both a zero m f x y is low high =
    let same : m ≡ a = omega arith in
    subst (λ (k : ℕ). sum_below k f ≤ a * x + 0 * y) (sym same) (let first = sum_first a f x low in omega (arith, first))
sum_both a (suc n) zero f x y is low high = absurd (omega arith)
sum_both a (suc n) (suc m) f x y is low high =
    let rest = sum_both a n m f x y (omega arith) low high in
    let last = high m (omega arith) in
    omega (arith, rest, last)

-- the growth of one tree
tree_grows : AddingGrows → (dims entries most points : ℕ) → entries + 1 ≤ most → points * added_pages dims ((entries + 1) * points) ≤ points * added_pages dims (most * points)
tree_grows grows dims entries most points le =
    mul-le points (added_pages dims ((entries + 1) * points)) points (added_pages dims (most * points)) (omega arith) (grows dims ((entries + 1) * points) (most * points) (mul-le (entries + 1) points most points le (omega arith)))

low_root : AddingGrows → (params : Params) (entries most root : ℕ) → entries + 1 ≤ most → root < corner_count params → root_growth params entries root ≤ added_pages params.dims most
low_root grows params entries most root le lt =
    let one : point_count params root ≡ 1 = cond-true (nat_lt root (corner_count params)) 1 (corner_count params) (lt-ltb root (corner_count params) lt) in
    subst (λ (p : ℕ). p * added_pages params.dims ((entries + 1) * p) ≤ added_pages params.dims most) (sym one) alone
  where
    alone : 1 * added_pages params.dims ((entries + 1) * 1) ≤ added_pages params.dims most
    alone = let grown = grows params.dims ((entries + 1) * 1) most (omega arith) in omega (arith, grown)

high_root : AddingGrows → (params : Params) (entries most root : ℕ) → entries + 1 ≤ most → corner_count params ≤ root
    → root_growth params entries root ≤ corner_count params * added_pages params.dims (most * corner_count params)
high_root grows params entries most root le ge =
    let many : point_count params root ≡ corner_count params = cond-false (nat_lt root (corner_count params)) 1 (corner_count params) (le-ltb root (corner_count params) ge) in
    subst (λ (p : ℕ). p * added_pages params.dims ((entries + 1) * p) ≤ corner_count params * added_pages params.dims (most * corner_count params)) (sym many)
    (tree_grows grows params.dims entries most (corner_count params) le)

pub growth_bounded : AddingGrows → (params : Params) (entries most : ℕ) → entries + 1 ≤ most → entry_growth params entries ≤ most_growth params most
growth_bounded grows params entries most le =
    sum_both (corner_count params) (plane_count params) (corner_count params + plane_count params) (root_growth params entries) (added_pages params.dims most)
    (corner_count params * added_pages params.dims (most * corner_count params)) refl (λ root lt. low_root grows params entries most root le lt) (λ root ge. high_root grows params entries most root le ge)
