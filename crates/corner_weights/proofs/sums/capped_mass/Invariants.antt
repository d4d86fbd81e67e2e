use Rattle.std.proofs.Common.{◌≡◌, ◌*◌, ◌-◌, ◌^◌, min, nat_abs, take}
use Rattle.std.specs.List.{zip, sum_by}
use Rattle.bw_types.specs.Integral.{exponent_lists}
use Rattle.bw_types.specs.Mass.{box_reach}
use Rattle.corner_weights.proofs.sums.capped_mass.Given as goal

abbrev pub invariant-loop-k : goal.invariant-loop-k
invariant-loop-k l =
    l.total ≡ min (sum_by (λ (c, es). nat_abs c * box_reach l.params l.object es) (take l.k (zip l.object.coeffs (exponent_lists l.params.dims l.degree)))) (2 ^ 128 - 1)
