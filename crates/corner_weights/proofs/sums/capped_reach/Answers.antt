use Rattle.std.proofs.Common.{◌≡◌, ℕ, ◌^◌, ◌-◌, [], slice_index, slice_index_or}
use Rattle.bw_types.specs.Fits.{coordinate}
use Rattle.bw_types.specs.Integral.{exponent_lists}
use Rattle.bw_types.specs.Mass.{reach}
use Rattle.corner_weights.proofs.Capped.{product_step}
use Rattle.corner_weights.proofs.sums.capped_reach.Goals as goal

pub loop-i-preserved : goal.loop-i-preserved
loop-i-preserved c =
    let params = c.args.params.now in
    let object = c.args.object.now in
    let factor = λ (i : ℕ). reach (slice_index (slice_index_or (exponent_lists params.dims c.args.degree) c.args.k []) i) (coordinate params (slice_index object.low i)) (coordinate params (slice_index object.high i)) in
    let at : c.reach.result ≡ factor c.loop-i.i = cc in
    product_step factor c.loop-i.i c.loop-i.product c.reach.result c.saturating_mul-product.result (2 ^ 128 - 1) c.loop-i.invariant at c.saturating_mul-product.ensures
