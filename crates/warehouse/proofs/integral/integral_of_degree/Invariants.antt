use Rattle.std.proofs.Common.{◌≡◌, [], pos, ◌*ℤ◌, slice_index_or}
use Rattle.std.specs.Int.{int_wrap, w128}
use Rattle.bw_types.specs.Integral.{exponent_lists, common_moment}
use Rattle.warehouse.proofs.Wrapped.{int_sum_below}
use Rattle.warehouse.proofs.integral.integral_of_degree.Given as goal

abbrev pub invariant-loop-k : goal.invariant-loop-k
invariant-loop-k l =
    l.total ≡ int_wrap w128 (int_sum_below l.k (λ k. slice_index_or l.object.coeffs k (pos 0) *ℤ common_moment l.params l.query l.object (slice_index_or (exponent_lists l.params.dims l.degree) k [])))
