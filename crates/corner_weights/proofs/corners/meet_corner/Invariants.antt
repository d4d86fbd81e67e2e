use Rattle.std.proofs.Common.{◌≡◌, true}
use Rattle.bw_types.specs.Tally.{each_below}
use Rattle.corner_weights.specs.Corners.{has_bound}
use Rattle.corner_weights.proofs.corners.meet_corner.Given as goal

abbrev pub invariant-loop-i : goal.invariant-loop-i
invariant-loop-i l = each_below l.i (has_bound l.query l.subset) ≡ true
