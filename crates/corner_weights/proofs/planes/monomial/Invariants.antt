use Rattle.std.proofs.Common.{◌≡◌, [], slice_index, slice_index_or}
use Rattle.std.specs.Int.{int_pow}
use Rattle.bw_types.specs.Tally.{int_product_below}
use Rattle.bw_types.specs.Residues.{residue}
use Rattle.bw_types.specs.Fits.{coordinate}
use Rattle.corner_weights.specs.Planes.{plane_exponents}
use Rattle.corner_weights.proofs.planes.monomial.Given as goal

abbrev pub invariant-loop-i : goal.invariant-loop-i
invariant-loop-i l =
    l.product ≡ residue (int_product_below l.i (λ i. int_pow (coordinate l.params (slice_index l.at i)) (slice_index (slice_index_or (plane_exponents l.params.dims l.degree) l.plane []) i)))
