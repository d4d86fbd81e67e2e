-- Corners of boxes, each told by the subset of the dimensions in which it stands at the other end.
use Rattle.std.specs.Prelude.{ℕ, ◌-◌, Bool, not, ◌&&◌, ◌==◌, nat_lt, if◌then◌else◌, List, [], ◌∷◌, slice_index, Option, Some, None}
use Rattle.bw_types.specs.Tally.{each_below}
use Rattle.bw_types.specs.Keys.{point_key, query_key}
use Rattle.bw_types.specs.declared.object.Object.{Object}
use Rattle.bw_types.specs.declared.query.Query.{Query}
use Rattle.corner_weights.specs.Subsets.{is_in_subset}

-- what f tells of each of the three dimensions
abbrev pub of_dimensions : (ℕ → ℕ) → List ℕ
of_dimensions f = f 0 ∷ f 1 ∷ f 2 ∷ []

-- the same, with 0 past the first dims dimensions
abbrev pub of_first_dimensions : ℕ → (ℕ → ℕ) → List ℕ
of_first_dimensions dims f = of_dimensions (λ i. if nat_lt i dims then f i else 0)

-- an end of the object: the high one in the subset, the low one elsewhere
abbrev pub object_end : Object → ℕ → ℕ → ℕ
object_end o subset i = if is_in_subset i subset then slice_index o.high i else slice_index o.low i

-- the object's corner of the subset
abbrev pub object_corner : Object → ℕ → List ℕ
object_corner o subset = of_dimensions (λ i. object_end o subset i)

-- the bound that an object's end keeps: strictly below the query's low end in the subset, so at most one
-- less, and at most its high end elsewhere
abbrev pub meet_bound : Query → ℕ → ℕ → ℕ
meet_bound q subset i = if is_in_subset i subset then slice_index q.low i - 1 else slice_index q.high i

-- there is a bound: nothing is strictly below a low end of 0
abbrev pub has_bound : Query → ℕ → ℕ → Bool
has_bound q subset i = not (is_in_subset i subset && slice_index q.low i == 0)

-- the keys of the query's corner of the subset for meeting, 0 past the dimensions; none where a bound is missing
abbrev pub meet_corner : ℕ → Query → ℕ → Option (List ℕ)
meet_corner dims q subset =
    if each_below dims (has_bound q subset) then Some (of_first_dimensions dims (λ i. query_key (meet_bound q subset i))) else None

-- an end of the query: the low one in the subset, the high one elsewhere
abbrev pub query_end : Query → ℕ → ℕ → ℕ
query_end q subset i = if is_in_subset i subset then slice_index q.low i else slice_index q.high i

-- the keys of the query's own corner of the subset, 0 past the dimensions
abbrev pub integral_corner : ℕ → Query → ℕ → List ℕ
integral_corner dims q subset = of_first_dimensions dims (λ i. query_key (query_end q subset i))

-- the keys of the point with this number at the object's corner of the subset, 0 past the dimensions
abbrev pub corner_keys : ℕ → Object → ℕ → ℕ → List ℕ
corner_keys dims o number subset = of_first_dimensions dims (λ i. point_key (object_end o subset i) number)
