-- The integrals over the cells add up: for each product of moments, then for each object, then for the objects live at a version.
use Rattle.std.proofs.Common.{◌≡◌, ℕ, zero, suc, ◌+◌, ◌≤◌, Bool, true, false, nat_lt, if◌then◌else◌, List, length, take, slice_index, Option, Some, None, ℤ, pos, ◌*ℤ◌, ◌≤ℤ◌, arith, refl, ◌∙◌, ap, ap₂, sym}
use Rattle.std.proofs.Math.Nat.{mul-le-mul_left}
use Rattle.std.proofs.lemmas.Int.{ints}
use Rattle.std.proofs.lemmas.List.{length-take-le, get_or-take}
use Rattle.std.specs.Int.{int_max, int_min}
use Rattle.std.specs.List.{range_with_len, zip}
use Rattle.std.specs.Option.{option_map_or}
use Rattle.bw_types.specs.Answers.{integral_at}
use Rattle.bw_types.specs.Fits.{coordinate}
use Rattle.bw_types.specs.History.{live}
use Rattle.bw_types.specs.Integral.{exponent_lists, moment, common_moment, integral_of_degree, integral_over}
use Rattle.bw_types.specs.Tally.{int_product_below, int_sum_by}
use Rattle.bw_types.specs.declared.params.Params.{Params}
use Rattle.bw_types.specs.declared.object.Object.{Object}
use Rattle.corner_weights.specs.Corners.{of_first_dimensions}
use Rattle.grid_report.specs.Grids.{line_at, lists_below, cells_of, cell_query}
use Rattle.grid_report.specs.CellsAddUp.{CellsAddUp, grid_query}
use Rattle.grid_report.specs.declared.asked.Grid.{Grid}
use Rattle.grid_report.proofs.SignedSums.{sum-same, sum-map, sum-of_multiples, sum-of_nothing, sum-exchange}
use Rattle.grid_report.proofs.CellProducts.{product-same, sum-of_products}
use Rattle.grid_report.proofs.LineMoments.{moments-add_up}

-- where line k stands in dimension i, as the ends of a box have it: 0 past the dimensions
abbrev end_at : Params → Grid → ℕ → ℕ → ℕ
end_at params g i k = slice_index (of_first_dimensions params.dims (λ d. line_at g d k)) i

-- an end of a box tells of its own dimension's line alone
end-own : (params : Params) (g : Grid) (k : ℕ → ℕ) (i : ℕ) → slice_index (of_first_dimensions params.dims (λ d. line_at g d (k d))) i ≡ end_at params g i (k i)
end-own params g k zero = refl
end-own params g k (suc zero) = refl
end-own params g k (suc (suc zero)) = refl
end-own params g k (suc (suc (suc i))) = refl

-- the lines ascend
ends-ascend : (params : Params) (g : Grid) (i a b : ℕ) → a ≤ b → end_at params g i a ≤ end_at params g i b
ends-ascend params g i a b h = by_dimension i
  where
    within : (t : Bool) (d : ℕ) → (if t then line_at g d a else 0) ≤ (if t then line_at g d b else 0)
    within true d = let steps = mul-le-mul_left (slice_index g.step d) h in omega arith
    within false d = omega arith

    by_dimension : (i : ℕ) → end_at params g i a ≤ end_at params g i b
    by_dimension zero = within (nat_lt 0 params.dims) 0
    by_dimension (suc zero) = within (nat_lt 1 params.dims) 1
    by_dimension (suc (suc zero)) = within (nat_lt 2 params.dims) 2
    by_dimension (suc (suc (suc i))) = omega arith

lines-ascend : (params : Params) (g : Grid) (i a b : ℕ) → a ≤ b → coordinate params (end_at params g i a) ≤ℤ coordinate params (end_at params g i b)
lines-ascend params g i a b h = let ends = ends-ascend params g i a b h in omega (arith, ints)

moments-of_cells : (params : Params) (g : Grid) (o : Object) (es : List ℕ) → params.dims ≤ length g.cells
    → int_sum_by (λ js. common_moment params (cell_query params g js) o es) (cells_of params g) ≡ common_moment params (grid_query params g) o es
moments-of_cells params g o es h =
    let dims = params.dims in
    let ns : List ℕ = take dims g.cells in
    let size : length ns ≡ dims = length-take-le dims g.cells h in
    let from : ℕ → ℕ → ℕ → ℤ = λ i a b. moment (slice_index es i) (int_max (coordinate params (slice_index o.low i)) (coordinate params a)) (int_min (coordinate params (slice_index o.high i)) (coordinate params b)) in
    let line : ℕ → ℕ → ℕ = end_at params g in
    let cell : ℕ → ℕ → ℤ = λ i j. from i (line i j) (line i (j + 1)) in
    sum-same (λ js. common_moment params (cell_query params g js) o es) (λ js. int_product_below dims (λ i. cell i (slice_index js i)))
    (λ js. product-same dims (λ i. from i (slice_index (cell_query params g js).low i) (slice_index (cell_query params g js).high i)) (λ i. cell i (slice_index js i))
    (λ i lt. ap₂ (from i) (end-own params g (λ d. slice_index js d) i) (end-own params g (λ d. slice_index js d + 1) i)))
    (lists_below ns)
    ∙ ap (λ n. int_sum_by (λ js. int_product_below n (λ i. cell i (slice_index js i))) (lists_below ns)) (sym size)
    ∙ sum-of_products ns cell
    ∙ ap (λ n. int_product_below n (λ i. int_sum_by (cell i) (range_with_len 0 (slice_index ns i)))) size
    ∙ product-same dims (λ i. int_sum_by (cell i) (range_with_len 0 (slice_index ns i))) (λ i. from i (slice_index (grid_query params g).low i) (slice_index (grid_query params g).high i))
    (λ i lt. moments-add_up (slice_index es i) (coordinate params (slice_index o.low i)) (coordinate params (slice_index o.high i)) (λ k. coordinate params (line i k)) (lines-ascend params g i) (slice_index ns i)
    ∙ ap (λ n. from i (line i 0) (line i n)) (get_or-take dims g.cells i 0 lt)
    ∙ sym (ap₂ (from i) (end-own params g (λ d. 0) i) (end-own params g (λ d. slice_index g.cells d) i)))

-- without a degree both sides are 0
object-over_cells : (params : Params) (g : Grid) (o : Object) → params.dims ≤ length g.cells
    → int_sum_by (λ js. integral_over params (cell_query params g js) o) (cells_of params g) ≡ integral_over params (grid_query params g) o
object-over_cells params g o h = by_degree params.degree
  where
    by_degree : (d : Option ℕ) → int_sum_by (λ js. option_map_or (integral_of_degree params (cell_query params g js) o) d (pos 0)) (cells_of params g) ≡ option_map_or (integral_of_degree params (grid_query params g) o) d (pos 0)
    by_degree (Some degree) =
        let terms : List (ℤ × List ℕ) = zip o.coeffs (exponent_lists params.dims degree) in
        let over : List ℕ → List ℕ → ℤ = λ js es. common_moment params (cell_query params g js) o es in
        sum-exchange (λ js z. z.0 *ℤ over js z.1) (cells_of params g) terms
        ∙ sum-same (λ z. int_sum_by (λ js. z.0 *ℤ over js z.1) (cells_of params g)) (λ z. z.0 *ℤ common_moment params (grid_query params g) o z.1)
        (λ z. sum-of_multiples z.0 (λ js. over js z.1) (cells_of params g) ∙ ap (λ m. z.0 *ℤ m) (moments-of_cells params g o z.1 h)) terms
    by_degree None = sum-of_nothing (cells_of params g)

pub cells-add_up : CellsAddUp
cells-add_up params h version g enough =
    let over : List ℕ → Object → ℤ = λ js o. integral_over params (cell_query params g js) o in
    sum-map (λ x. x) (λ js. integral_at params h version (cell_query params g js)) (cells_of params g)
    ∙ sum-exchange over (cells_of params g) (live h version)
    ∙ sum-same (λ o. int_sum_by (λ js. over js o) (cells_of params g)) (integral_over params (grid_query params g)) (λ o. object-over_cells params g o enough) (live h version)
