use Rattle.std.proofs.Common.{◌≡◌, true, List, ℕ, [], ◌∷◌, sym, subst, arith}
use Rattle.bw_types.specs.Fits.{ends_fit}
use Rattle.grid_report.specs.Corners.{corner_at}
use Rattle.grid_report.proofs.CornerPoints.{corner-fits, line-small}
use Rattle.grid_report.proofs.Fitting.{fitted}
use Rattle.grid_report.proofs.cells.corner.Goals as goal

pub line-requires-clause-within : goal.line-requires-clause-within
line-requires-clause-within c = λ lt. line-small c.args.params.now c.args.grid.now 0 _ ((fitted c.args.params.now c.args.grid.now c.requires.fits).each 0 lt) (c.requires.within 0 lt)

pub line-requires-2-clause-within : goal.line-requires-2-clause-within
line-requires-2-clause-within c = λ lt. line-small c.args.params.now c.args.grid.now 1 _ ((fitted c.args.params.now c.args.grid.now c.requires.fits).each 1 lt) (c.requires.within 1 lt)

pub line-requires-3-clause-within : goal.line-requires-3-clause-within
line-requires-3-clause-within c = λ lt. line-small c.args.params.now c.args.grid.now 2 _ ((fitted c.args.params.now c.args.grid.now c.requires.fits).each 2 lt) (c.requires.within 2 lt)

pub returns-clause-fits : goal.returns-clause-fits
returns-clause-fits c =
    let p = c.args.params.now in
    let g = c.args.grid.now in
    let at : c.line.result ∷ c.line-2.result ∷ c.line-3.result ∷ [] ≡ corner_at p g c.args.lines.now = cc in
    subst (λ (point : List ℕ). ends_fit p point point ≡ true) (sym at) (corner-fits p g c.args.lines.now (omega arith) (fitted p g c.requires.fits) c.requires.within)
