use Rattle.std.proofs.Common.{◌≡◌, ◌-◌, ◌^◌, min, [], slice_index, slice_index_or}
use Rattle.bw_types.specs.Tally.{product_below}
use Rattle.bw_types.specs.Fits.{coordinate}
use Rattle.bw_types.specs.Integral.{exponent_lists}
use Rattle.bw_types.specs.Mass.{reach}
use Rattle.corner_weights.proofs.sums.capped_reach.Given as goal

abbrev pub invariant-loop-i : goal.invariant-loop-i
invariant-loop-i l =
    l.product ≡ min (product_below l.i (λ i. reach (slice_index (slice_index_or (exponent_lists l.params.dims l.degree) l.k []) i) (coordinate l.params (slice_index l.object.low i)) (coordinate l.params (slice_index l.object.high i)))) (2 ^ 128 - 1)
