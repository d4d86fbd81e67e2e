-- Over all cells, a product with a factor for each dimension has for its sum the product of the factors' sums.
use Rattle.std.proofs.Common.{◌≡◌, ℕ, zero, suc, ◌<◌, List, [], ◌∷◌, length, map, slice_index, ℤ, pos, ◌*ℤ◌, arith, refl, ◌∙◌, ap, ap₂, sym}
use Rattle.std.proofs.Math.IntN.{*ℤ_comm}
use Rattle.std.specs.List.{range_with_len}
use Rattle.bw_types.specs.Tally.{int_product_below, int_sum_by}
use Rattle.grid_report.specs.Grids.{lists_below}
use Rattle.grid_report.proofs.SignedProducts.{times_assoc}
use Rattle.grid_report.proofs.SignedSums.{sum-same, sum-map, sum-flat_map, sum-of_multiples, sum-times}

pub product-same : (n : ℕ) (f g : ℕ → ℤ) → ((i : ℕ) → i < n → f i ≡ g i) → int_product_below n f ≡ int_product_below n g
product-same zero f g e = refl
product-same (suc n) f g e = ap₂ ◌*ℤ◌ (product-same n f g (λ i h. e i (omega arith))) (e n (omega arith))

-- the first factor, times the others
product-first : (n : ℕ) (f : ℕ → ℤ) → int_product_below (suc n) f ≡ f 0 *ℤ int_product_below n (λ i. f (suc i))
product-first zero f = *ℤ_comm (pos 1) (f 0)
product-first (suc n) f =
    ap (λ z. z *ℤ f (suc n)) (product-first n f) ∙ times_assoc (f 0) (int_product_below n (λ i. f (suc i))) (f (suc n))

pub sum-of_products : (ns : List ℕ) (f : ℕ → ℕ → ℤ)
    → int_sum_by (λ js. int_product_below (length ns) (λ i. f i (slice_index js i))) (lists_below ns)
    ≡ int_product_below (length ns) (λ i. int_sum_by (f i) (range_with_len 0 (slice_index ns i)))
sum-of_products [] f = refl
sum-of_products (n ∷ ns) f =
    let numbers = range_with_len 0 n in
    let others : ℤ = int_product_below (length ns) (λ i. int_sum_by (f (suc i)) (range_with_len 0 (slice_index ns i))) in
    let whole : List ℕ → ℤ = λ js. int_product_below (suc (length ns)) (λ i. f i (slice_index js i)) in
    let rest : List ℕ → ℤ = λ js. int_product_below (length ns) (λ i. f (suc i) (slice_index js i)) in
    let from : (j : ℕ) → int_sum_by whole (map (λ js. j ∷ js) (lists_below ns)) ≡ f 0 j *ℤ others = λ j.
    sum-map whole (λ js. j ∷ js) (lists_below ns)
    ∙ sum-same (λ js. whole (j ∷ js)) (λ js. f 0 j *ℤ rest js) (λ js. product-first (length ns) (λ i. f i (slice_index (j ∷ js) i))) (lists_below ns)
    ∙ sum-of_multiples (f 0 j) rest (lists_below ns)
    ∙ ap (λ z. f 0 j *ℤ z) (sum-of_products ns (λ i. f (suc i))) in
    sum-flat_map whole (λ j. map (λ js. j ∷ js) (lists_below ns)) numbers
    ∙ sum-same (λ j. int_sum_by whole (map (λ js. j ∷ js) (lists_below ns))) (λ j. f 0 j *ℤ others) from numbers
    ∙ sum-times (f 0) others numbers
    ∙ sym (product-first (length ns) (λ i. int_sum_by (f i) (range_with_len 0 (slice_index (n ∷ ns) i))))
