-- The laws of meeting by corners over lists of weighted objects.
use Rattle.std.specs.Prelude.{◌≡◌, ℕ, ◌^◌, ◌<◌, Bool, true, false, if◌then◌else◌, List, Option, Some, None, refl, map}
use Rattle.std.specs.Option.{option_map_or}
use Rattle.std.proofs.Common.{lit<, sym, ◌∙◌, ap}
use Rattle.bw_types.specs.Dominance.{dominance_sum}
use Rattle.bw_types.specs.declared.query.Query.{Query}
use Rattle.corner_weights.specs.Subsets.{residue_signed_by}
use Rattle.corner_weights.specs.Corners.{meet_corner}
use Rattle.corner_weights.specs.SumLaws.{sum_below_of_equal}
use Rattle.corner_weights.specs.MeetingLaws.{lists_meet_by_corners, dominance_at_corner, nothing_at_missing_corner}
use Rattle.corner_weights.specs.Entries.{Entry, corner_point, weight_at, counted_at, sum_at_corner, DominanceAtCorner, NothingAtMissingCorner, EntriesMeetByCorners, SumsMeetByCorners}

pub entries_dominated_at_corner : DominanceAtCorner
entries_dominated_at_corner dims q version entries subset corner there =
    dominance_at_corner dims q (λ e. e.object) (λ e. e.number) (corner_point dims subset) entries subset version corner (λ e. refl) there

pub entries_at_missing_corner : NothingAtMissingCorner
entries_at_missing_corner dims q version entries subset missing =
    nothing_at_missing_corner dims q (λ e. e.object) (λ e. e.number) (weight_at version) entries subset missing

-- a weight that is taken or not is below what it is below
choice-below : (t : Bool) (weight : ℕ) → weight < 2 ^ 128 → (if t then weight else 0) < 2 ^ 128
choice-below true weight h = h
choice-below false weight h = lit< tt

pub entries_meet_by_corners : EntriesMeetByCorners
entries_meet_by_corners params q version entries range fq all =
    lists_meet_by_corners params q (λ e. e.object) (λ e. e.number) (weight_at version) entries range fq
    (λ k d h. let fits = all k d h in (fits.0, fits.1, choice-below _ _ fits.2))

-- what is answered at a corner is what counts there, whether the corner is there or not
answered : (dims : ℕ) (q : Query) (version : ℕ) (entries : List Entry) (subset : ℕ) (corner : Option (List ℕ)) → meet_corner dims q subset ≡ corner
    → option_map_or (λ corner. dominance_sum dims (map (corner_point dims subset) entries) corner version) corner 0 ≡ counted_at dims q version entries subset
answered dims q version entries subset (Some corner) there = entries_dominated_at_corner dims q version entries subset corner there
answered dims q version entries subset None missing = sym (entries_at_missing_corner dims q version entries subset missing)

pub sums_meet_by_corners : SumsMeetByCorners
sums_meet_by_corners params q version entries range fq all =
    sum_below_of_equal (2 ^ params.dims) (λ subset. residue_signed_by subset (sum_at_corner params.dims q version entries subset))
    (λ subset. residue_signed_by subset (counted_at params.dims q version entries subset))
    (λ subset _. ap (residue_signed_by subset) (answered params.dims q version entries subset (meet_corner params.dims q subset) refl))
    ∙ entries_meet_by_corners params q version entries range fq all
