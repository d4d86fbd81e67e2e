use Rattle.std.proofs.Common.{◌≡◌, ◌≤◌, suc, take}
use Rattle.cut_parts.specs.Widest.{greatest_key, least_key}
use Rattle.cut_parts.proofs.widest.spread.Given as goal

abbrev pub invariant-loop-point : goal.invariant-loop-point
invariant-loop-point l = record {
  least : l.least ≡ least_key l.dimension (take (suc l.point-index) l.points);
  greatest : l.greatest ≡ greatest_key l.dimension (take (suc l.point-index) l.points);
  in_order : l.least ≤ l.greatest;
}
