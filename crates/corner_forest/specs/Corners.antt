-- What trees of points say at a query's corners.
use Rattle.std.specs.Prelude.{ℕ, ◌+◌, List, map, slice_index}
use Rattle.std.specs.List.{range_with_len}
use Rattle.std.specs.Option.{option_map_or}
use Rattle.bw_types.specs.Dominance.{dominance_sum}
use Rattle.bw_types.specs.declared.params.Params.{Params}
use Rattle.bw_types.specs.declared.point.Point.{Point}
use Rattle.bw_types.specs.declared.query.Query.{Query}
use Rattle.bw_types.specs.Keys.{query_key}
use Rattle.corner_weights.specs.Corners.{meet_corner, of_first_dimensions}
use Rattle.corner_weights.specs.Planes.{plane_count}
use Rattle.corner_forest.specs.Entries.{corner_count}

-- the dominance sum of the points at the query's corner of the subset for meeting, and 0 where that is missing
abbrev pub value_at : ℕ → Query → ℕ → List Point → ℕ → ℕ
value_at dims q version points subset = option_map_or (λ corner. dominance_sum dims points corner version) (meet_corner dims q subset) 0

-- each plane's dominance sum at the keys
abbrev pub planes_at : Params → (ℕ → List Point) → List ℕ → ℕ → List ℕ
planes_at params points keys version =
    map (λ plane. dominance_sum params.dims (points (corner_count params + plane)) keys version) (range_with_len 0 (plane_count params))

-- the keys at which sums below a corner of stored numbers are asked, 0 past the dimensions
abbrev pub keys_below : Params → List ℕ → List ℕ
keys_below params at = of_first_dimensions params.dims (λ i. query_key (slice_index at i))
