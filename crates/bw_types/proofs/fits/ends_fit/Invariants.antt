use Rattle.std.proofs.Common.{◌≡◌, ◌&&◌, true, nat_le, slice_index}
use Rattle.bw_types.specs.Fits.{greatest_number}
use Rattle.bw_types.specs.Tally.{each_below}
use Rattle.bw_types.proofs.fits.ends_fit.Given as goal

abbrev pub invariant-loop-i : goal.invariant-loop-i
invariant-loop-i l = each_below l.i (λ i. nat_le (slice_index l.low i) (slice_index l.high i) && nat_le (slice_index l.high i) (greatest_number l.params)) ≡ true
