use Rattle.std.proofs.Common.{◌≡◌, [], slice_index_or, take, ◌*ℤ◌}
use Rattle.std.specs.List.{zip}
use Rattle.bw_types.specs.Tally.{int_sum_by}
use Rattle.bw_types.specs.Residues.{residue}
use Rattle.bw_types.specs.Integral.{exponent_lists}
use Rattle.corner_weights.specs.Corners.{object_corner}
use Rattle.corner_weights.specs.Planes.{corner_coefficient, plane_exponents}
use Rattle.corner_weights.proofs.planes.corner_sum.Given as goal

abbrev pub invariant-loop-k : goal.invariant-loop-k
invariant-loop-k l =
    l.total ≡ residue (int_sum_by (λ (c, es). c *ℤ corner_coefficient l.params (object_corner l.object l.subset) (slice_index_or (plane_exponents l.params.dims l.degree) l.plane []) es) (take l.k (zip l.object.coeffs (exponent_lists l.params.dims l.degree))))
