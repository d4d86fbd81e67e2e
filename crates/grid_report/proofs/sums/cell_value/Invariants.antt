use Rattle.std.proofs.Common.{◌≡◌, slice_index}
use Rattle.corner_weights.specs.Subsets.{residue_signed_by}
use Rattle.corner_weights.specs.Sums.{residue_sum_below}
use Rattle.grid_report.specs.Corners.{corner_line}
use Rattle.grid_report.specs.Indexes.{number_of}
use Rattle.grid_report.proofs.sums.cell_value.Given as goal

-- the sum over the subsets so far
abbrev pub invariant-loop-subset : goal.invariant-loop-subset
invariant-loop-subset l = l.total ≡ residue_sum_below l.subset (λ subset. residue_signed_by subset (slice_index l.corners (number_of l.dims (λ i. slice_index l.lines i) (λ i. corner_line subset i (slice_index l.cell i)))))
