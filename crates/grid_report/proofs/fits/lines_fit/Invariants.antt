use Rattle.std.proofs.Common.{◌≡◌, ◌&&◌, true, nat_le, slice_index}
use Rattle.bw_types.specs.Fits.{greatest_number}
use Rattle.bw_types.specs.Tally.{each_below}
use Rattle.grid_report.specs.Grids.{line_at}
use Rattle.grid_report.proofs.fits.lines_fit.Given as goal

-- every dimension so far does
abbrev pub invariant-loop-i : goal.invariant-loop-i
invariant-loop-i l = each_below l.i (λ i. nat_le 1 (slice_index l.grid.step i) && nat_le 1 (slice_index l.grid.cells i) && nat_le (line_at l.grid i (slice_index l.grid.cells i)) (greatest_number l.params)) ≡ true
