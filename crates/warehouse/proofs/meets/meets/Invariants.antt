use Rattle.std.proofs.Common.{◌≡◌, ◌&&◌, true, nat_le, slice_index}
use Rattle.bw_types.specs.Tally.{each_below}
use Rattle.warehouse.proofs.meets.meets.Given as goal

abbrev pub invariant-loop-i : goal.invariant-loop-i
invariant-loop-i l = each_below l.i (λ i. nat_le (slice_index l.object.low i) (slice_index l.query.high i) && nat_le (slice_index l.query.low i) (slice_index l.object.high i)) ≡ true
