use Rattle.std.proofs.Common.{◌≡◌, take}
use Rattle.cut_parts.specs.Parts.{border_points}
use Rattle.cut_parts.proofs.borders.border_points.Given as goal

abbrev pub invariant-loop-point : goal.invariant-loop-point
invariant-loop-point l = l.made.items ≡ border_points l.dimension (take l.point-index l.points)
