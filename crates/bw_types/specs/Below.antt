-- The integral of an object's value function over the part of its box below a corner, times 6 for each dimension. The integrals of
-- boxes that share a corner share it.
use Rattle.std.specs.Prelude.{ℕ, List, ℤ, pos, ◌*ℤ◌, slice_index}
use Rattle.std.specs.List.{zip}
use Rattle.std.specs.Option.{option_map_or}
use Rattle.std.specs.Int.{int_min}
use Rattle.bw_types.specs.Tally.{int_product_below, int_sum_by}
use Rattle.bw_types.specs.Fits.{coordinate}
use Rattle.bw_types.specs.History.{History, live}
use Rattle.bw_types.specs.Integral.{exponent_lists, moment}
use Rattle.bw_types.specs.declared.params.Params.{Params}
use Rattle.bw_types.specs.declared.object.Object.{Object}

-- where the object's part below the corner ends in dimension i: at the corner, or with the object
abbrev pub high_below : Params → List ℕ → Object → ℕ → ℤ
high_below params at o i = int_min (coordinate params (slice_index o.high i)) (coordinate params (slice_index at i))

-- the product of the moments of these exponents over that part, one for each dimension
abbrev pub moment_below : Params → List ℕ → Object → List ℕ → ℤ
moment_below params at o es =
    int_product_below params.dims (λ i. moment (slice_index es i) (coordinate params (slice_index o.low i)) (high_below params at o i))

-- the sum of the coefficients times the moments of their exponents, for a value function of degree g
abbrev pub integral_of_degree_below : Params → List ℕ → Object → ℕ → ℤ
integral_of_degree_below params at o g =
    int_sum_by (λ (c, es). c *ℤ moment_below params at o es) (zip o.coeffs (exponent_lists params.dims g))

-- what one object gives below a corner of stored numbers: nothing without a degree
abbrev pub integral_below : Params → List ℕ → Object → ℤ
integral_below params at o = option_map_or (integral_of_degree_below params at o) params.degree (pos 0)

-- what the objects that are live at a version give together
abbrev pub below_at : Params → History → ℕ → List ℕ → ℤ
below_at params h version at = int_sum_by (integral_below params at) (live h version)
