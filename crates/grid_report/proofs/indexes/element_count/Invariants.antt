use Rattle.std.proofs.Common.{◌≡◌, slice_index}
use Rattle.bw_types.specs.Tally.{product_below}
use Rattle.grid_report.proofs.indexes.element_count.Given as goal

abbrev pub invariant-loop-i : goal.invariant-loop-i
invariant-loop-i l = l.count ≡ product_below l.i (λ i. slice_index l.sizes i)
