use Rattle.std.proofs.Common.{ℕ, ◌<◌, ◌≤◌, get_or, slice_index}
use Rattle.bw_types.specs.declared.point.Point.{Point}
use Rattle.image_check.proofs.sides.are_high.Given as goal

abbrev pub invariant-loop-point : goal.invariant-loop-point
invariant-loop-point l = (k : ℕ) (d : Point) → k < l.point-index → l.key ≤ slice_index (get_or l.points k d).keys l.dimension
