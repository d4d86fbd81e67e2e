use Rattle.std.proofs.Common.{◌≡◌, ◌<◌, ◌+◌, ◌*◌, ◌∙◌, ℕ, sym, ap, arith, slice_index}
use Rattle.std.proofs.lemmas.Bool.{lt-leb}
use Rattle.bw_types.specs.Tally.{product_below}
use Rattle.grid_report.specs.Grids.{grid_corners}
use Rattle.grid_report.proofs.Products.{one-more, product-grows}
use Rattle.grid_report.proofs.fits.corners_fit.Goals as goal

pub returns-then-corners-gt-MOST_CORNERS : goal.returns-then-corners-gt-MOST_CORNERS
returns-then-corners-gt-MOST_CORNERS c =
    let p = c.args.params.now in
    let g = c.args.grid.now in
    let f = λ (i : ℕ). slice_index g.cells i + 1 in
    let here : product_below (c.loop-i.i + 1) f ≡ c.loop-i.corners * (c.from.result + 1) =
    one-more c.loop-i.i f ∙ ap (λ n. n * f c.loop-i.i) (sym c.loop-i.invariant.0) ∙ ap (λ n. c.loop-i.corners * (n + 1)) (sym c.from.ensures) in
    let all = product-grows f p.dims (λ k lt. omega arith) (c.loop-i.i + 1) (omega arith) in
    let many : 4096 < grid_corners p g = omega (arith, here, all) in
    sym (lt-leb (grid_corners p g) 4096 many)
