use Rattle.std.proofs.Common.{◌≡◌, ◌++◌, ◌<◌, ◌^◌, map, take}
use Rattle.std.specs.List.{All}
use Rattle.key_check.specs.Sums.{opposite_corner}
use Rattle.key_check.proofs.points.push_opposites.Given as goal

abbrev pub invariant-loop-point : goal.invariant-loop-point
invariant-loop-point l = record {
  items : l.corners.items ≡ l.fn.corners.items ++ map (opposite_corner l.keyed) (take l.point-index l.points);
  typed : All (λ p. p.weight < 2 ^ 128) (take l.point-index l.points);
}
