use Rattle.std.proofs.Common.{◌∙◌, ◌&&◌, sym, arith, nat_le, slice_index}
use Rattle.bw_types.specs.Fits.{greatest_number}
use Rattle.bw_types.proofs.Below.{each_below-false}
use Rattle.grid_report.specs.Grids.{line_at}
use Rattle.grid_report.proofs.fits.lines_fit.Goals as goal

pub returns-then-not-dimension_fits : goal.returns-then-not-dimension_fits
returns-then-not-dimension_fits c =
    let p = c.args.params.now in
    let g = c.args.grid.now in
    sym (each_below-false p.dims c.loop-i.i (λ i. nat_le 1 (slice_index g.step i) && nat_le 1 (slice_index g.cells i) && nat_le (line_at g i (slice_index g.cells i)) (greatest_number p)) (omega arith) (sym c.dimension_fits.ensures ∙ c.if-not-dimension_fits.true))
