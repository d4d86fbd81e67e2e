use Rattle.std.proofs.Common.{◌≡◌, [], slice_index, slice_index_or}
use Rattle.std.specs.Int.{int_wrap, w128}
use Rattle.bw_types.specs.Integral.{exponent_lists, moment, common_low, common_high}
use Rattle.bw_types.specs.Tally.{int_product_below}
use Rattle.warehouse.proofs.integral.common_moment.Given as goal

abbrev pub invariant-loop-i : goal.invariant-loop-i
invariant-loop-i l =
    l.product ≡ int_wrap w128 (int_product_below l.i (λ i. moment (slice_index (slice_index_or (exponent_lists l.params.dims l.degree) l.k []) i) (common_low l.params l.query l.object i) (common_high l.params l.query l.object i)))
