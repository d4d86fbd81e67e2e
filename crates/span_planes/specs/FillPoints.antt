-- The point of an entry in the tree at a place: the trees of the weights come first, those of the dated ones behind them.
use Rattle.std.specs.Prelude.{ℕ, ◌-◌, nat_lt, if◌then◌else◌}
use Rattle.bw_types.specs.declared.params.Params.{Params}
use Rattle.bw_types.specs.declared.point.Point.{Point}
use Rattle.corner_weights.specs.Entries.{corner_point}
use Rattle.corner_forest.specs.Entries.{corner_count}
use Rattle.corner_weights.specs.PlaneSums.{Entered}
use Rattle.span_planes.specs.SpanPoints.{dated_weight, plain_weight, weighed}

-- the subset of the dimensions to which the tree belongs
abbrev pub subset_at : Params → ℕ → ℕ
subset_at params place = if nat_lt place (corner_count params) then place else place - corner_count params

-- the weight that the entry has there
abbrev pub weight_in : Params → ℕ → Entered → ℕ
weight_in params place e = if nat_lt place (corner_count params) then plain_weight e else dated_weight e

-- the entry's point there
abbrev pub point_in : Params → ℕ → Entered → Point
point_in params place e = corner_point params.dims (subset_at params place) (weighed (weight_in params place) e)
