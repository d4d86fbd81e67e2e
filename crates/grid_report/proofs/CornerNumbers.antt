-- The number of an element from its indexes, and its indexes from that number.
use Rattle.std.proofs.Common.{◌≡◌, ℕ, zero, suc, ◌+◌, ◌*◌, ◌<◌, ◌≤◌, true, false, if◌then◌else◌, [], ◌∷◌, ◌++◌, map, refl, sym, ap, ap₂, ◌∙◌, add-one, arith, lit<}
use Rattle.std.proofs.Math.Nat.{mul_comm}
use Rattle.std.proofs.lemmas.List.FromFn.{map-range_with_len_more}
use Rattle.std.proofs.lemmas.Nat.{div-mul-add, mod-mul-add, mul-add-lt}
use Rattle.std.specs.List.{range_with_len}
use Rattle.bw_types.specs.Tally.{product_below}
use Rattle.corner_weights.specs.Subsets.{is_in_subset}
use Rattle.grid_report.specs.Corners.{corner_line}
use Rattle.grid_report.specs.Indexes.{indexes_of, number_of}
use Rattle.grid_report.proofs.Products.{product-grows}

-- the line of a cell's corner is at most one past its index
line-most : (subset i j : ℕ) → corner_line subset i j ≤ j + 1
line-most subset i j = elim (is_in_subset i subset) as (λ b. (if b then j else j + 1) ≤ j + 1) [ true ↦ omega arith | false ↦ omega arith ]

-- the number so far is that of the indexes in the first dimensions
pub record IsNumber (n index : ℕ → ℕ) (i number : ℕ) : Type 0 where
  pub is : number ≡ number_of i n index
  pub below : number < product_below i n

pub number-none : (n index : ℕ → ℕ) → IsNumber n index 0 0
number-none n index = record { is = refl; below = lit< tt }

number-more : (n index : ℕ → ℕ) (i number : ℕ) → index i < n i → IsNumber n index i number → IsNumber n index (i + 1) (number * n i + index i)
number-more n index i number h g =
    let lt = mul-add-lt number (n i) (index i) (product_below i n) g.below h in
    let below : number * n i + index i < product_below i n * n i = omega (arith, lt, mul_comm (n i) (product_below i n)) in
    rw add-one (record { is = ap (λ m. m * n i + index i) g.is; below = below })

-- with one index more it stays below the number of all elements
pub number-next : (n index : ℕ → ℕ) (dims i number at : ℕ) → ((k : ℕ) → k < dims → index k < n k) → i < dims → at ≡ index i → IsNumber n index i number
    → IsNumber n index (i + 1) (number * n i + at) × (number * n i + at < product_below dims n)
number-next n index dims i number at h lt is g =
    let next = rw (← is) at (number-more n index i number (h i lt) g) in
    let all = product-grows n dims (λ k below. let some = h k below in omega arith) (i + 1) (omega arith) in
    (next, omega (arith, next.below, all))

-- the lines of a cell's corner are lines of the grid
pub lines-within : (dims subset : ℕ) (n cell : ℕ → ℕ) → ((k : ℕ) → k < dims → cell k + 1 < n k) → (k : ℕ) → k < dims → corner_line subset k (cell k) < n k
lines-within dims subset n cell h k lt =
    let within = h k lt in
    omega (arith, line-most subset k (cell k))

-- such an element is found by its number
pub indexes-of_number : (dims : ℕ) (n index : ℕ → ℕ) → ((i : ℕ) → i < dims → index i < n i) → indexes_of dims n (number_of dims n index) ≡ map index (range_with_len 0 dims)
indexes-of_number zero n index h = refl
indexes-of_number (suc dims) n index h =
    let number = number_of dims n index in
    let last = h dims (omega arith) in
    let begin : 0 + dims ≡ dims = omega arith in
    ap₂ (λ k j. indexes_of dims n k ++ j ∷ []) (div-mul-add number (n dims) (index dims) last) (mod-mul-add number (n dims) (index dims) last)
    ∙ ap (λ ks. ks ++ index dims ∷ []) (indexes-of_number dims n index (λ i lt. h i (omega arith)))
    ∙ sym (map-range_with_len_more index 0 dims dims begin)
    ∙ ap (λ k. map index (range_with_len 0 k)) (add-one dims)

pub number-below : (dims : ℕ) (n index : ℕ → ℕ) → ((i : ℕ) → i < dims → index i < n i) → number_of dims n index < product_below dims n
number-below dims n index h = (number-of_all dims h).below
  where
    number-of_all : (d : ℕ) → ((i : ℕ) → i < d → index i < n i) → IsNumber n index d (number_of d n index)
    number-of_all zero h = number-none n index
    number-of_all (suc d) h = rw (add-one d) at (number-more n index d (number_of d n index) (h d (omega arith)) (number-of_all d (λ i lt. h i (omega arith))))

-- only the indexes in these dimensions count
pub number-same : (dims : ℕ) (n index other : ℕ → ℕ) → ((i : ℕ) → i < dims → index i ≡ other i) → number_of dims n index ≡ number_of dims n other
number-same zero n index other h = refl
number-same (suc dims) n index other h = ap₂ (λ a b. a * n dims + b) (number-same dims n index other (λ i lt. h i (omega arith))) (h dims (omega arith))
