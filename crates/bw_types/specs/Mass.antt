-- The mass of an object: a bound on each integral of it, over any box.
use Rattle.std.specs.Prelude.{ℕ, ◌+◌, ◌*◌, ◌/◌, ◌^◌, List, ℤ, pos, negsuc, neg_ℤ, nat_abs, slice_index}
use Rattle.std.specs.List.{zip, sum_by}
use Rattle.std.specs.Option.{option_map_or}
use Rattle.bw_types.specs.Tally.{product_below}
use Rattle.bw_types.specs.Fits.{coordinate}
use Rattle.bw_types.specs.Integral.{exponent_lists}
use Rattle.bw_types.specs.declared.params.Params.{Params}
use Rattle.bw_types.specs.declared.object.Object.{Object}

-- the number, or 0 where it is below 0
abbrev pub above_zero : ℤ → ℕ
above_zero (pos n) = n
above_zero (negsuc n) = 0

-- six times the integral of |x|^e from the low end to 0 and from 0 to the high end, where these lie so
abbrev pub reach : ℕ → ℤ → ℤ → ℕ
reach e low high = (6 / (e + 1)) * (above_zero high ^ (e + 1) + above_zero (neg_ℤ low) ^ (e + 1))

-- the product of the reaches of these exponents over the object's box, one for each dimension
abbrev pub box_reach : Params → Object → List ℕ → ℕ
box_reach params o es =
    product_below params.dims (λ i. reach (slice_index es i) (coordinate params (slice_index o.low i)) (coordinate params (slice_index o.high i)))

-- the sum over the coefficients of their size times the reach of their exponents, for a value function of degree g
abbrev pub mass_of_degree : Params → Object → ℕ → ℕ
mass_of_degree params o g = sum_by (λ (c, es). nat_abs c * box_reach params o es) (zip o.coeffs (exponent_lists params.dims g))

-- the mass: 0 without a degree
abbrev pub mass : Params → Object → ℕ
mass params o = option_map_or (mass_of_degree params o) params.degree 0

-- the masses of all objects ever added stay below this
abbrev pub mass_limit : ℕ
mass_limit = 2 ^ 126
