-- Lists of weighted objects, each entered as one point at each of its corners, and their signed dominance sums.
use Rattle.std.specs.Prelude.{◌≡◌, ℕ, ◌%◌, ◌^◌, ◌<◌, true, nat_le, if◌then◌else◌, List, map, Some, None}
use Rattle.std.specs.List.{sum_by, All}
use Rattle.std.specs.Option.{option_map_or}
use Rattle.bw_types.specs.Meets.{meets}
use Rattle.bw_types.specs.Fits.{IsInRange, ends_fit, object_fits}
use Rattle.bw_types.specs.Dominance.{dominance_sum}
use Rattle.bw_types.specs.declared.params.Params.{Params}
use Rattle.bw_types.specs.declared.object.Object.{Object}
use Rattle.bw_types.specs.declared.point.Point.{Point}
use Rattle.bw_types.specs.declared.query.Query.{Query}
use Rattle.corner_weights.specs.Subsets.{residue_signed_by}
use Rattle.corner_weights.specs.Sums.{residue_sum_below}
use Rattle.corner_weights.specs.Corners.{meet_corner, corner_keys}
use Rattle.corner_weights.specs.Meeting.{counted_at_corner}

-- a weighted object: the number of its points, the version from which it counts, and the residue of its weight
pub record Entry : Type 0 where
  pub object : Object
  pub number : ℕ
  pub version : ℕ
  pub weight : ℕ

-- the entry keeps the rules: its object fits, its number is below 2^32, and its weight below 2^128
abbrev pub EntryFits : Params → Entry → Type 0
EntryFits params e = (object_fits params e.object ≡ true) × (e.number < 2 ^ 32) × (e.weight < 2 ^ 128)

-- the point of the entry at its object's corner of the subset
abbrev pub corner_point : ℕ → ℕ → Entry → Point
corner_point dims subset e = record { keys = corner_keys dims e.object e.number subset; version = e.version; weight = e.weight }

-- the weight that the entry has at a version: 0 before its own
abbrev pub weight_at : ℕ → Entry → ℕ
weight_at version e = if nat_le e.version version then e.weight else 0

-- the total weight at a version of the entries whose corner of the subset counts, modulo 2^128
abbrev pub counted_at : ℕ → Query → ℕ → List Entry → ℕ → ℕ
counted_at dims q version entries subset = counted_at_corner dims q (λ e. e.object) (λ e. e.number) (weight_at version) entries subset

-- the total weight at a version of the entries whose objects meet the query
abbrev pub met_weight : ℕ → Query → ℕ → List Entry → ℕ
met_weight dims q version entries = sum_by (λ e. if meets dims q e.object then weight_at version e else 0) entries

-- the dominance sum of the entries' corners of the subset at the query's corner of it, and 0 where that is missing
abbrev pub sum_at_corner : ℕ → Query → ℕ → List Entry → ℕ → ℕ
sum_at_corner dims q version entries subset =
    option_map_or (λ corner. dominance_sum dims (map (corner_point dims subset) entries) corner version) (meet_corner dims q subset) 0

-- Where the query has a corner, the dominance sum there of the entries' corners is what counts at it.
abbrev pub DominanceAtCorner : Type 0
DominanceAtCorner = (dims : ℕ) (q : Query) (version : ℕ) (entries : List Entry) (subset : ℕ) (corner : List ℕ) → meet_corner dims q subset ≡ Some corner
    → dominance_sum dims (map (corner_point dims subset) entries) corner version ≡ counted_at dims q version entries subset

-- Where the query has no corner, no weight counts.
abbrev pub NothingAtMissingCorner : Type 0
NothingAtMissingCorner = (dims : ℕ) (q : Query) (version : ℕ) (entries : List Entry) (subset : ℕ) → meet_corner dims q subset ≡ None
    → counted_at dims q version entries subset ≡ 0

-- The signed totals of what counts at the corners come to the weight that meets the query, modulo 2^128.
abbrev pub EntriesMeetByCorners : Type 0
EntriesMeetByCorners = (params : Params) (q : Query) (version : ℕ) (entries : List Entry) → IsInRange params → ends_fit params q.low q.high ≡ true
    → All (EntryFits params) entries
    → residue_sum_below (2 ^ params.dims) (λ subset. residue_signed_by subset (counted_at params.dims q version entries subset))
    ≡ met_weight params.dims q version entries % 2 ^ 128

-- So do the signed dominance sums themselves.
abbrev pub SumsMeetByCorners : Type 0
SumsMeetByCorners = (params : Params) (q : Query) (version : ℕ) (entries : List Entry) → IsInRange params → ends_fit params q.low q.high ≡ true
    → All (EntryFits params) entries
    → residue_sum_below (2 ^ params.dims) (λ subset. residue_signed_by subset (sum_at_corner params.dims q version entries subset))
    ≡ met_weight params.dims q version entries % 2 ^ 128
