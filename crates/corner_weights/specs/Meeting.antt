-- Meeting by corners: boxes meet exactly where the signed count of corners comes to 1.
use Rattle.std.specs.Prelude.{◌≡◌, ℕ, ◌%◌, ◌^◌, ◌<◌, Bool, true, false, if◌then◌else◌, List, slice_index, nat_le, take, ℤ, pos, ◌&&◌, Some, None}
use Rattle.std.specs.List.{sum_by}
use Rattle.std.specs.Option.{option_map_or}
use Rattle.bw_types.specs.Tally.{each_below}
use Rattle.bw_types.specs.Meets.{meets}
use Rattle.bw_types.specs.Fits.{IsInRange, ends_fit, object_fits}
use Rattle.bw_types.specs.Dominance.{keys_at_most, is_dominated}
use Rattle.bw_types.specs.declared.params.Params.{Params}
use Rattle.bw_types.specs.declared.object.Object.{Object}
use Rattle.bw_types.specs.declared.point.Point.{Point}
use Rattle.bw_types.specs.declared.query.Query.{Query}
use Rattle.corner_weights.specs.Subsets.{signed_by, residue_signed_by}
use Rattle.corner_weights.specs.Sums.{int_sum_below, residue_sum_below}
use Rattle.corner_weights.specs.Corners.{meet_corner, corner_keys}

-- the query's corner of the subset is there, and the point with this number at the object's corner counts at it
abbrev pub corner_counts : ℕ → Query → Object → ℕ → ℕ → Bool
corner_counts dims q o number subset =
    option_map_or (λ corner. keys_at_most (take dims (corner_keys dims o number subset)) (take dims corner)) (meet_corner dims q subset) false

-- the total of the weights whose object's corner of the subset counts, modulo 2^128
unfoldable pub counted_at_corner : {X : Type 0} → ℕ → Query → (X → Object) → (X → ℕ) → (X → ℕ) → List X → ℕ → ℕ
counted_at_corner dims q object number weight entries subset =
    sum_by (λ e. if corner_counts dims q (object e) (number e) subset then weight e else 0) entries % 2 ^ 128

-- in each of the dimensions the low end is at most the high one
abbrev pub ends_are_ordered : ℕ → List ℕ → List ℕ → Bool
ends_are_ordered dims low high = each_below dims (λ i. nat_le (slice_index low i) (slice_index high i))

-- Over the subsets of the dimensions, a weight that each takes with its sign where the object's corner counts
-- comes to the weight where the boxes meet, and to 0 elsewhere.
abbrev pub WeightsMeetByCorners : Type 0
WeightsMeetByCorners = (params : Params) (q : Query) (o : Object) (number : ℕ) (weight : ℤ) → IsInRange params → number < 2 ^ 32
    → object_fits params o ≡ true → ends_fit params q.low q.high ≡ true
    → int_sum_below (2 ^ params.dims) (λ subset. signed_by subset (if corner_counts params.dims q o number subset then weight else pos 0))
    ≡ (if meets params.dims q o then weight else pos 0)

-- The signed count of corners is 1 where the boxes meet, and 0 elsewhere.
abbrev pub BoxesMeetByCorners : Type 0
BoxesMeetByCorners = (params : Params) (q : Query) (o : Object) (number : ℕ) → IsInRange params → number < 2 ^ 32
    → object_fits params o ≡ true → ends_fit params q.low q.high ≡ true
    → int_sum_below (2 ^ params.dims) (λ subset. signed_by subset (if corner_counts params.dims q o number subset then pos 1 else pos 0))
    ≡ (if meets params.dims q o then pos 1 else pos 0)

-- The same of residues: the sum is modulo 2^128, and signs are opposites there.
abbrev pub ResiduesMeetByCorners : Type 0
ResiduesMeetByCorners = (params : Params) (q : Query) (o : Object) (number weight : ℕ) → IsInRange params → number < 2 ^ 32 → weight < 2 ^ 128
    → object_fits params o ≡ true → ends_fit params q.low q.high ≡ true
    → residue_sum_below (2 ^ params.dims) (λ subset. residue_signed_by subset (if corner_counts params.dims q o number subset then weight else 0))
    ≡ (if meets params.dims q o then weight else 0)

-- Where the query has a corner, a point with the keys of the object's corner is dominated by it at a version from
-- its own on exactly where the corner counts.
abbrev pub PointCountsAtCorner : Type 0
PointCountsAtCorner = (dims : ℕ) (q : Query) (o : Object) (number subset version : ℕ) (corner : List ℕ) (p : Point)
    → p.keys ≡ corner_keys dims o number subset → meet_corner dims q subset ≡ Some corner
    → is_dominated dims corner version p ≡ (nat_le p.version version && corner_counts dims q o number subset)

-- Where the query has no corner, nothing counts.
abbrev pub NothingCountsWithoutCorner : Type 0
NothingCountsWithoutCorner = (dims : ℕ) (q : Query) (o : Object) (number subset : ℕ)
    → meet_corner dims q subset ≡ None → corner_counts dims q o number subset ≡ false
