use Rattle.std.proofs.Common.{◌<◌, ◌⊎◌, inl, inr, sym, arith, ◌&&◌, nat_le, slice_index}
use Rattle.warehouse.proofs.Below.{each_below-false, either-false}
use Rattle.warehouse.proofs.meets.meets.Goals as goal
use Rattle.warehouse.proofs.meets.meets.Goals.{then-object-i-via-then-object-i, then-object-i-via-else-object-i+then-query-i}

pub returns-then-object-i : goal.returns-then-object-i
returns-then-object-i c =
    let at = c.loop-i.i in
    let bad : (slice_index c.args.query.now.high at < slice_index c.args.object.now.low at) ⊎ (slice_index c.args.object.now.high at < slice_index c.args.query.now.low at) =
    elim c.then-object-i.branch [
      | then-object-i-via-then-object-i w ↦ inl w.if-object-i.true
      | then-object-i-via-else-object-i+then-query-i w ↦ inr w.if-query-i.true
    ] in
    sym (each_below-false c.args.dims at (λ i. nat_le (slice_index c.args.object.now.low i) (slice_index c.args.query.now.high i) && nat_le (slice_index c.args.query.now.low i) (slice_index c.args.object.now.high i)) (omega arith) (either-false _ _ _ _ bad))
