use Rattle.std.proofs.Common.{◌<◌}
use Rattle.std.specs.List.{AllAdjacentBelow}
use Rattle.cut_parts.specs.Medians.{key_of}
use Rattle.cut_parts.proofs.fitting.do_rise.Given as goal

abbrev pub invariant-loop-place : goal.invariant-loop-place
invariant-loop-place l = AllAdjacentBelow (λ p q. key_of l.dimension p < key_of l.dimension q) l.points l.place
