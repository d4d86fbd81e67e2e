-- The corners of a grid that keeps the rules are in range.
use Rattle.std.proofs.Common.{◌≡◌, ℕ, zero, suc, ◌+◌, ◌^◌, ◌<◌, ◌≤◌, ◌&&◌, ◌==◌, Bool, true, false, if◌then◌else◌, List, nat_le, slice_index, refl, arith}
use Rattle.std.proofs.Math.Nat.{mul-le-mul_left}
use Rattle.std.proofs.lemmas.Bool.{le-leb, lt-ltb}
use Rattle.bw_types.specs.Fits.{ends_fit, greatest_number}
use Rattle.bw_types.specs.Tally.{each_below}
use Rattle.bw_types.specs.declared.params.Params.{Params}
use Rattle.corner_weights.specs.Corners.{of_first_dimensions}
use Rattle.grid_report.specs.Corners.{corner_at}
use Rattle.grid_report.specs.Grids.{cell_query, line_at}
use Rattle.grid_report.specs.declared.asked.Grid.{Grid}
use Rattle.grid_report.proofs.Fitting.{FitsIn, Fitted}

greatest-most : (params : Params) → greatest_number params ≤ 4294967294
greatest-most params = elim (params.origin == 0) as (λ b. (if b then 4294967294 else 4294967293) ≤ 4294967294) [ true ↦ omega arith | false ↦ omega arith ]

line-within : (params : Params) (g : Grid) (i k : ℕ) → FitsIn params g i → k ≤ slice_index g.cells i → line_at g i k ≤ greatest_number params
line-within params g i k fits le =
    let last = fits.last in
    let before = mul-le-mul_left (slice_index g.step i) le in
    omega arith

-- a line of the grid has 32 bits
pub line-small : (params : Params) (g : Grid) (i k : ℕ) → FitsIn params g i → k ≤ slice_index g.cells i → line_at g i k < 2 ^ 32
line-small params g i k fits le =
    let within = line-within params g i k fits le in
    let most = greatest-most params in
    omega arith

-- what f tells of one of the dimensions
of-dimension : (dims i : ℕ) (f : ℕ → ℕ) → i < dims → dims ≤ 3 → slice_index (of_first_dimensions dims f) i ≡ f i
of-dimension dims zero f lt few = let test = lt-ltb 0 dims lt in rw test refl
of-dimension dims (suc zero) f lt few = let test = lt-ltb 1 dims lt in rw test refl
of-dimension dims (suc (suc zero)) f lt few = let test = lt-ltb 2 dims lt in rw test refl
of-dimension dims (suc (suc (suc i))) f lt few = absurd (omega arith)

-- a test that holds of each number below n
each_below-all : (n : ℕ) (p : ℕ → Bool) → ((i : ℕ) → i < n → p i ≡ true) → each_below n p ≡ true
each_below-all zero p h = refl
each_below-all (suc n) p h = rw (each_below-all n p (λ i lt. h i (omega arith)), h n (omega arith)) refl

-- the corner where lines of the grid meet is a box of one point
pub corner-fits : (params : Params) (g : Grid) (ks : List ℕ) → params.dims ≤ 3 → Fitted params g → ((i : ℕ) → i < params.dims → slice_index ks i ≤ slice_index g.cells i)
    → ends_fit params (corner_at params g ks) (corner_at params g ks) ≡ true
corner-fits params g ks few fits within =
    let at = corner_at params g ks in
    each_below-all params.dims (λ i. nat_le (slice_index at i) (slice_index at i) && nat_le (slice_index at i) (greatest_number params)) (λ i lt.
    let stored : slice_index at i ≡ line_at g i (slice_index ks i) = of-dimension params.dims i (λ i. line_at g i (slice_index ks i)) lt few in
    let same = le-leb (line_at g i (slice_index ks i)) (line_at g i (slice_index ks i)) (omega arith) in
    let most = le-leb (line_at g i (slice_index ks i)) (greatest_number params) (line-within params g i (slice_index ks i) (fits.each i lt) (within i lt)) in
    rw (stored, same, most) refl)

-- and so is the box of a cell
pub cell-fits : (params : Params) (g : Grid) (js : List ℕ) → params.dims ≤ 3 → Fitted params g → ((i : ℕ) → i < params.dims → slice_index js i < slice_index g.cells i)
    → ends_fit params (cell_query params g js).low (cell_query params g js).high ≡ true
cell-fits params g js few fits within =
    let low = (cell_query params g js).low in
    let high = (cell_query params g js).high in
    each_below-all params.dims (λ i. nat_le (slice_index low i) (slice_index high i) && nat_le (slice_index high i) (greatest_number params)) (λ i lt.
    let j = slice_index js i in
    let first : slice_index low i ≡ line_at g i j = of-dimension params.dims i (λ i. line_at g i (slice_index js i)) lt few in
    let last : slice_index high i ≡ line_at g i (j + 1) = of-dimension params.dims i (λ i. line_at g i (slice_index js i + 1)) lt few in
    let more : j ≤ j + 1 = omega arith in
    let order = le-leb (line_at g i j) (line_at g i (j + 1)) (let longer = mul-le-mul_left (slice_index g.step i) more in omega arith) in
    let most = le-leb (line_at g i (j + 1)) (greatest_number params) (line-within params g i (j + 1) (fits.each i lt) (let below = within i lt in omega arith)) in
    rw (first, last, order, most) refl)
