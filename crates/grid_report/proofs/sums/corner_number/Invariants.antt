use Rattle.std.proofs.Common.{slice_index}
use Rattle.grid_report.specs.Corners.{corner_line}
use Rattle.grid_report.proofs.CornerNumbers.{IsNumber}
use Rattle.grid_report.proofs.sums.corner_number.Given as goal

abbrev pub invariant-loop-i : goal.invariant-loop-i
invariant-loop-i l = IsNumber (λ i. slice_index l.lines i) (λ i. corner_line l.subset i (slice_index l.cell i)) l.i l.number
