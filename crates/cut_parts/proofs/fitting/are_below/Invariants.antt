use Rattle.std.proofs.Common.{ℕ, ◌<◌, get_or}
use Rattle.bw_types.specs.declared.point.Point.{Point}
use Rattle.cut_parts.specs.Fitting.{IsPointBelow}
use Rattle.cut_parts.proofs.fitting.are_below.Given as goal

abbrev pub invariant-loop-point : goal.invariant-loop-point
invariant-loop-point l = (k : ℕ) (d : Point) → k < l.point-index → IsPointBelow l.dims (get_or l.points k d)
