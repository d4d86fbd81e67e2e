-- The planes of value functions: each corner of an object carries a polynomial in a query's corner, whose
-- coefficients are the weights of the planes at that corner.
--
-- Corners are told in coordinates, which may be below 0. The exponents of a plane run from 0 to the degree and 1 more.
use Rattle.std.specs.Prelude.{ℕ, ◌+◌, ◌^◌, ◌/◌, ◌==◌, if◌then◌else◌, List, [], ℤ, pos, ◌*ℤ◌, neg_ℤ, slice_index}
use Rattle.std.specs.List.{slice_index_or, zip}
use Rattle.std.specs.Option.{option_map_or}
use Rattle.std.specs.Int.{int_pow}
use Rattle.bw_types.specs.Tally.{int_product_below, int_sum_by}
use Rattle.bw_types.specs.Fits.{coordinate}
use Rattle.bw_types.specs.Integral.{exponent_lists}
use Rattle.bw_types.specs.declared.params.Params.{Params}
use Rattle.bw_types.specs.declared.object.Object.{Object}
use Rattle.corner_weights.specs.Subsets.{signed_by}
use Rattle.corner_weights.specs.Corners.{object_corner}

-- six times the antiderivative of x^e that is 0 at 0
abbrev pub primitive : ℕ → ℤ → ℤ
primitive e x = pos (6 / (e + 1)) *ℤ int_pow x (e + 1)

-- the coefficient of x^f in primitive e x - primitive e c, a polynomial in x
abbrev pub coefficient : ℕ → ℕ → ℤ → ℤ
coefficient e f c = if f == 0 then neg_ℤ (primitive e c) else if f == e + 1 then pos (6 / (e + 1)) else pos 0

-- how many planes there are
abbrev pub plane_count : Params → ℕ
plane_count params = option_map_or (λ g. (g + 2) ^ params.dims) params.degree 0

-- the exponents of each plane, the last one running fastest, for a value function of degree g
abbrev pub plane_exponents : ℕ → ℕ → List (List ℕ)
plane_exponents dims g = exponent_lists dims (g + 1)

-- the coefficient of the monomial with exponents fs in the product over the dimensions of
-- primitive e x - primitive e c: in each, c is the corner's coordinate and e the exponent in es
abbrev pub corner_coefficient : Params → List ℕ → List ℕ → List ℕ → ℤ
corner_coefficient params corner fs es =
    int_product_below params.dims (λ i. coefficient (slice_index es i) (slice_index fs i) (coordinate params (slice_index corner i)))

-- the coefficient of that monomial in the polynomial of a corner, without its sign: the sum over the terms of
-- the object's value function, which has degree g
abbrev pub corner_sum : Params → Object → ℕ → List ℕ → List ℕ → ℤ
corner_sum params o g corner fs =
    int_sum_by (λ (c, es). c *ℤ corner_coefficient params corner fs es) (zip o.coeffs (exponent_lists params.dims g))

-- with the sign of the corner's subset
abbrev pub corner_weight : Params → Object → ℕ → ℕ → List ℕ → ℤ
corner_weight params o g subset fs = signed_by subset (corner_sum params o g (object_corner o subset) fs)

-- the weight of the object's corner of the subset in a plane: 0 without a degree
abbrev pub plane_weight : Params → Object → ℕ → ℕ → ℤ
plane_weight params o subset plane =
    option_map_or (λ g. corner_weight params o g subset (slice_index_or (plane_exponents params.dims g) plane [])) params.degree (pos 0)

-- the monomial with exponents fs at a point of stored numbers
abbrev pub monomial : Params → List ℕ → List ℕ → ℤ
monomial params at fs = int_product_below params.dims (λ i. int_pow (coordinate params (slice_index at i)) (slice_index fs i))

-- the value at a point of stored numbers of the polynomial whose coefficients are the planes: 0 without a degree
abbrev pub planes_value : Params → List ℕ → List ℕ → ℤ
planes_value params planes at =
    option_map_or (λ g. int_sum_by (λ (w, fs). pos w *ℤ monomial params at fs) (zip planes (plane_exponents params.dims g))) params.degree (pos 0)
