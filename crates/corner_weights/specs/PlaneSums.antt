-- Integrals of a list of objects by the dominance sums of their planes' points.
use Rattle.std.specs.Prelude.{◌≡◌, ℕ, ◌+◌, ◌*◌, ◌^◌, ◌<◌, Bool, true, nat_le, if◌then◌else◌, List, map, IsSome, ℤ, pos, neg_ℤ, ◌*ℤ◌}
use Rattle.std.specs.List.{All, flat_map, range_with_len}
use Rattle.bw_types.specs.Tally.{int_sum_by}
use Rattle.bw_types.specs.Fits.{IsInRange, ends_fit, object_fits}
use Rattle.bw_types.specs.Below.{integral_below}
use Rattle.bw_types.specs.Integral.{integral_over}
use Rattle.bw_types.specs.Residues.{residue, opposite_residue}
use Rattle.bw_types.specs.Dominance.{dominance_sum}
use Rattle.bw_types.specs.declared.params.Params.{Params}
use Rattle.bw_types.specs.declared.object.Object.{Object}
use Rattle.bw_types.specs.declared.point.Point.{Point}
use Rattle.bw_types.specs.declared.query.Query.{Query}
use Rattle.corner_weights.specs.Subsets.{residue_signed_by}
use Rattle.corner_weights.specs.Sums.{residue_sum_below}
use Rattle.corner_weights.specs.Corners.{corner_keys, integral_corner}
use Rattle.corner_weights.specs.Planes.{plane_count, plane_weight, planes_value}
use Rattle.corner_weights.specs.Integrals.{query_corner}

-- an object that was entered: the number of its event, the version from which it counts, and whether it counts with
-- the opposite sign
pub record Entered : Type 0 where
  pub object : Object
  pub event : ℕ
  pub version : ℕ
  pub minus : Bool

-- the entry keeps the rules: its object fits, and its event number is below 2^28
abbrev pub EnteredFits : Params → Entered → Type 0
EnteredFits params e = (object_fits params e.object ≡ true) × (e.event < 2 ^ 28)

-- how the entry counts at a version: 0 before its own, and from then on 1, or -1 where it has the opposite sign
abbrev pub counts_at : ℕ → Entered → ℤ
counts_at version e = if nat_le e.version version then (if e.minus then neg_ℤ (pos 1) else pos 1) else pos 0

-- the number of the point of a corner
abbrev pub corner_number : ℕ → ℕ → ℕ → ℕ
corner_number dims event corner = event * 2 ^ dims + corner

-- the weight of the entry's corner in a plane, modulo 2^128
abbrev pub entered_weight : Params → ℕ → ℕ → Entered → ℕ
entered_weight params plane corner e =
    if e.minus then opposite_residue (residue (plane_weight params e.object corner plane)) else residue (plane_weight params e.object corner plane)

-- the point of that corner in the plane
abbrev pub plane_point : Params → ℕ → ℕ → Entered → Point
plane_point params plane corner e =
    record { keys = corner_keys params.dims e.object (corner_number params.dims e.event corner) corner; version = e.version; weight = entered_weight params plane corner e }

-- the points of a plane: those of all corners of all entries
abbrev pub plane_points : Params → ℕ → List Entered → List Point
plane_points params plane entries = flat_map (λ e. map (λ corner. plane_point params plane corner e) (range_with_len 0 (2 ^ params.dims))) entries

-- each plane's dominance sum at the query's own corner of the subset
abbrev pub summed_planes : Params → Query → ℕ → List Entered → ℕ → List ℕ
summed_planes params q version entries subset =
    map (λ plane. dominance_sum params.dims (plane_points params plane entries) (integral_corner params.dims q subset) version) (range_with_len 0 (plane_count params))

-- the total at a version of the integrals over the entries' common parts with the query
abbrev pub integral_at : Params → Query → ℕ → List Entered → ℤ
integral_at params q version entries = int_sum_by (λ e. counts_at version e *ℤ integral_over params q e.object) entries

-- The signed values at the query's corners of the polynomials whose coefficients are the planes' dominance sums there
-- come to the total integral, modulo 2^128.
abbrev pub IntegralByPlanes : Type 0
IntegralByPlanes = (params : Params) (q : Query) (version : ℕ) (entries : List Entered) → IsInRange params → IsSome params.degree
    → ends_fit params q.low q.high ≡ true → All (EnteredFits params) entries
    → residue_sum_below (2 ^ params.dims) (λ subset. residue_signed_by subset (residue (planes_value params (summed_planes params q version entries subset) (query_corner q subset))))
    ≡ residue (integral_at params q version entries)

-- the total at a version of the integrals of the entries below a corner of stored numbers
abbrev pub entered_below : Params → List ℕ → ℕ → List Entered → ℤ
entered_below params at version entries = int_sum_by (λ e. counts_at version e *ℤ integral_below params at e.object) entries

-- The value, at one corner of a query, of the polynomial whose coefficients are the planes' dominance sums there comes to the total integral
-- below that corner, modulo 2^128.
abbrev pub BelowByPlanes : Type 0
BelowByPlanes = (params : Params) (q : Query) (version : ℕ) (entries : List Entered) (subset : ℕ) → IsInRange params → IsSome params.degree
    → All (EnteredFits params) entries
    → residue (planes_value params (summed_planes params q version entries subset) (query_corner q subset))
    ≡ residue (entered_below params (query_corner q subset) version entries)
