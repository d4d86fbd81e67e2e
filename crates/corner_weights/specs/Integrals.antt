-- Integrals by planes: the signed values, at the corners of a query, of the polynomials whose coefficients are the
-- planes' weights of the corners of objects at or below that corner.
use Rattle.std.specs.Prelude.{◌≡◌, ℕ, ◌^◌, Bool, true, nat_le, if◌then◌else◌, List, Some, ℤ, pos, ◌*ℤ◌}
use Rattle.bw_types.specs.Tally.{each_below, int_sum_by}
use Rattle.bw_types.specs.Fits.{IsInRange, ends_fit, object_fits}
use Rattle.bw_types.specs.Below.{below_at}
use Rattle.bw_types.specs.Answers.{integral_at}
use Rattle.bw_types.specs.History.{History}
use Rattle.bw_types.specs.Integral.{integral_over}
use Rattle.bw_types.specs.declared.params.Params.{Params}
use Rattle.bw_types.specs.declared.object.Object.{Object}
use Rattle.bw_types.specs.declared.query.Query.{Query}
use Rattle.corner_weights.specs.Subsets.{signed_by}
use Rattle.corner_weights.specs.Sums.{int_sum_below}
use Rattle.corner_weights.specs.Corners.{of_dimensions, object_end, query_end}
use Rattle.corner_weights.specs.Planes.{corner_weight, plane_exponents, monomial}

-- the query's own corner of the subset, in stored numbers: the low end in the subset, the high end elsewhere
abbrev pub query_corner : Query → ℕ → List ℕ
query_corner q subset = of_dimensions (λ i. query_end q subset i)

-- the object's corner of one subset is at or below the query's corner of another
abbrev pub corner_is_below : ℕ → Object → ℕ → Query → ℕ → Bool
corner_is_below dims o corner q at = each_below dims (λ i. nat_le (object_end o corner i) (query_end q at i))

-- what the object's corners at or below the query's corner weigh together in the plane with exponents fs
abbrev pub plane_at_corner : Params → Object → ℕ → Query → ℕ → List ℕ → ℤ
plane_at_corner params o g q at fs =
    int_sum_below (2 ^ params.dims) (λ corner. if corner_is_below params.dims o corner q at then corner_weight params o g corner fs else pos 0)

-- the value at the query's corner of the polynomial with these coefficients
abbrev pub value_at_corner : Params → Object → ℕ → Query → ℕ → ℤ
value_at_corner params o g q at =
    int_sum_by (λ fs. plane_at_corner params o g q at fs *ℤ monomial params (query_corner q at) fs) (plane_exponents params.dims g)

-- The signed values at the corners of a query come to the integral over the object's common part with it.
abbrev pub ObjectIntegralByPlanes : Type 0
ObjectIntegralByPlanes = (params : Params) (q : Query) (o : Object) (g : ℕ) → IsInRange params → params.degree ≡ Some g
    → object_fits params o ≡ true → ends_fit params q.low q.high ≡ true
    → int_sum_below (2 ^ params.dims) (λ at. signed_by at (value_at_corner params o g q at)) ≡ integral_over params q o

-- The signed integrals below the corners of a query come to the integral over it: those of an object below the query's corners of all
-- subsets, the sign telling how many dimensions are taken at the low end.
abbrev pub IntegralByCorners : Type 0
IntegralByCorners = (params : Params) (h : History) (version : ℕ) (q : Query) → IsInRange params → ends_fit params q.low q.high ≡ true
    → int_sum_below (2 ^ params.dims) (λ at. signed_by at (below_at params h version (query_corner q at))) ≡ integral_at params h version q
