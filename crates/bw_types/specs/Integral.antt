-- The integral of an object's value function over its common part with a query box, times 6 for each dimension.
use Rattle.std.specs.Prelude.{ℕ, zero, suc, ◌+◌, ◌/◌, List, [], ◌∷◌, ℤ, pos, ◌-ℤ◌, ◌*ℤ◌, map, slice_index, int_lt, if◌then◌else◌}
use Rattle.std.specs.List.{flat_map, range_with_len, zip}
use Rattle.std.specs.Option.{option_map_or}
use Rattle.std.specs.Int.{int_pow, int_max, int_min}
use Rattle.bw_types.specs.Tally.{int_product_below, int_sum_by}
use Rattle.bw_types.specs.Fits.{coordinate}
use Rattle.bw_types.specs.declared.params.Params.{Params}
use Rattle.bw_types.specs.declared.object.Object.{Object}
use Rattle.bw_types.specs.declared.query.Query.{Query}

-- all lists of so many numbers from 0 to g, the last number running fastest
abbrev pub exponent_lists : ℕ → ℕ → List (List ℕ)
exponent_lists zero g = [] ∷ []
exponent_lists (suc dims) g = flat_map (λ e. map (λ es. e ∷ es) (exponent_lists dims g)) (range_with_len 0 (g + 1))

-- six times the integral of x^e from a to b, or 0 where a is not below b
abbrev pub moment : ℕ → ℤ → ℤ → ℤ
moment e a b = if int_lt a b then pos (6 / (e + 1)) *ℤ (int_pow b (e + 1) -ℤ int_pow a (e + 1)) else pos 0

-- where the common part of object and query box begins in dimension i
abbrev pub common_low : Params → Query → Object → ℕ → ℤ
common_low params q o i = int_max (coordinate params (slice_index o.low i)) (coordinate params (slice_index q.low i))

-- where it ends
abbrev pub common_high : Params → Query → Object → ℕ → ℤ
common_high params q o i = int_min (coordinate params (slice_index o.high i)) (coordinate params (slice_index q.high i))

-- the product of the moments of these exponents over the common part, one for each dimension
abbrev pub common_moment : Params → Query → Object → List ℕ → ℤ
common_moment params q o es =
    int_product_below params.dims (λ i. moment (slice_index es i) (common_low params q o i) (common_high params q o i))

-- the sum of the coefficients times the moments of their exponents, for a value function of degree g
abbrev pub integral_of_degree : Params → Query → Object → ℕ → ℤ
integral_of_degree params q o g =
    int_sum_by (λ (c, es). c *ℤ common_moment params q o es) (zip o.coeffs (exponent_lists params.dims g))

-- what one object gives: nothing without a degree
abbrev pub integral_over : Params → Query → Object → ℤ
integral_over params q o = option_map_or (integral_of_degree params q o) params.degree (pos 0)
