use Rattle.std.proofs.Common.{◌≡◌, take, pos, ◌*ℤ◌}
use Rattle.std.specs.List.{zip}
use Rattle.bw_types.specs.Tally.{int_sum_by}
use Rattle.bw_types.specs.Residues.{residue}
use Rattle.corner_weights.specs.Planes.{monomial, plane_exponents}
use Rattle.corner_weights.proofs.planes.eval.Given as goal

abbrev pub invariant-loop-k : goal.invariant-loop-k
invariant-loop-k l =
    l.total ≡ residue (int_sum_by (λ (w, fs). pos w *ℤ monomial l.params l.at fs) (take l.k (zip l.planes (plane_exponents l.params.dims l.degree))))
