use Rattle.std.proofs.Common.{◌≡◌, map, slice_index}
use Rattle.std.specs.List.{range_with_len}
use Rattle.grid_report.specs.Indexes.{indexes_of}
use Rattle.grid_report.proofs.CellSums.{value_by_numbers}
use Rattle.grid_report.proofs.sums.cell_values.Given as goal

-- the values so far
abbrev pub invariant-loop-number : goal.invariant-loop-number
invariant-loop-number l = l.values.items ≡ map (λ q. value_by_numbers l.params.dims l.lines l.corners (indexes_of l.params.dims (λ i. slice_index l.grid.cells i) q)) (range_with_len 0 l.number)
