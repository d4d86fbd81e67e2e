use Rattle.std.proofs.Common.{◌≡◌, ◌+◌, ◌≤◌, slice_index}
use Rattle.bw_types.specs.Tally.{product_below}
use Rattle.grid_report.proofs.fits.corners_fit.Given as goal

-- the corners in the dimensions so far
abbrev pub invariant-loop-i : goal.invariant-loop-i
invariant-loop-i l = (l.corners ≡ product_below l.i (λ i. slice_index l.grid.cells i + 1)) × (l.corners ≤ 4096)
