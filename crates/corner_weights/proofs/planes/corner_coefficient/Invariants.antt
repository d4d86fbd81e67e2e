use Rattle.std.proofs.Common.{◌≡◌, [], slice_index, slice_index_or}
use Rattle.bw_types.specs.Tally.{int_product_below}
use Rattle.bw_types.specs.Residues.{residue}
use Rattle.bw_types.specs.Fits.{coordinate}
use Rattle.bw_types.specs.Integral.{exponent_lists}
use Rattle.corner_weights.specs.Corners.{object_corner}
use Rattle.corner_weights.specs.Planes.{coefficient, plane_exponents}
use Rattle.corner_weights.proofs.planes.corner_coefficient.Given as goal

abbrev pub invariant-loop-i : goal.invariant-loop-i
invariant-loop-i l =
    l.product ≡ residue (int_product_below l.i (λ i. coefficient (slice_index (slice_index_or (exponent_lists l.params.dims l.degree) l.k []) i) (slice_index (slice_index_or (plane_exponents l.params.dims l.degree) l.plane []) i) (coordinate l.params (slice_index (object_corner l.object l.subset) i))))
