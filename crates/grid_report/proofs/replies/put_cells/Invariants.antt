use Rattle.std.proofs.Common.{◌≡◌, ◌++◌}
use Rattle.std.specs.List.{flat_map, range_with_len}
use Rattle.grid_report.proofs.CellLines.{cell_at}
use Rattle.grid_report.proofs.replies.put_cells.Given as goal

-- the lines so far
abbrev pub invariant-loop-number : goal.invariant-loop-number
invariant-loop-number l = l.text.items ≡ l.initial.text.items ++ flat_map (cell_at l.params l.grid l.values) (range_with_len 0 l.number)
