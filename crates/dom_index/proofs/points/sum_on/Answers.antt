use Rattle.std.proofs.Common.{◌^◌, arith}
use Rattle.page_layout.specs.Totals.{next_total}
use Rattle.dom_index.specs.Sums.{counted_weight}
use Rattle.dom_index.proofs.points.sum_on.Goals as goal

pub loop-place-preserved : goal.loop-place-preserved
loop-place-preserved c = next_total (counted_weight c.args.dims c.args.keys.now c.args.version) c.args.view.now.points.items c.loop-place.place c.loop-place.total c.counted-total.result (2 ^ 128) c.point.result
    (omega (arith, c.loop-place-test.true, c.len-place-end.ensures)) c.point.ensures c.counted-total.ensures c.loop-place.invariant
