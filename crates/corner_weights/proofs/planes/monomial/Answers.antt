use Rattle.std.proofs.Common.{◌≡◌, ℕ, List, [], sym, lit<, slice_index, slice_index_or}
use Rattle.std.specs.Int.{int_pow}
use Rattle.bw_types.specs.ResidueLaws.{residue_of_small}
use Rattle.bw_types.specs.Fits.{coordinate}
use Rattle.bw_types.specs.Residues.{residue}
use Rattle.corner_weights.specs.Planes.{plane_exponents}
use Rattle.corner_weights.proofs.Steps.{product_step}
use Rattle.corner_weights.proofs.planes.monomial.Goals as goal

pub loop-i-init : goal.loop-i-init
loop-i-init c = sym (residue_of_small 1 (lit< tt))

pub loop-i-preserved : goal.loop-i-preserved
loop-i-preserved c =
    let params = c.args.params.now in
    let fs : List ℕ = slice_index_or (plane_exponents params.dims c.args.degree) c.args.plane [] in
    let factor = λ (i : ℕ). int_pow (coordinate params (slice_index c.args.at.now i)) (slice_index fs i) in
    let at : c.power.result ≡ residue (factor c.loop-i.i) = cc in
    product_step factor c.loop-i.i c.loop-i.product c.power.result c.res_mul-product.result c.loop-i.invariant at c.res_mul-product.ensures
