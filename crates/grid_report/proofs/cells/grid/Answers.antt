use Rattle.std.proofs.Common.{◌≡◌, ◌∙◌, ◌≤◌, Err, ap, subst, length, arith}
use Rattle.std.proofs.lemmas.Result.{err_from_is_err_and}
use Rattle.bw_types.specs.Fits.{IsInRange}
use Rattle.page_warehouse.specs.Shown.{params_in}
use Rattle.grid_report.specs.declared.cells.GridFault.TheVariants.{Damaged}
use Rattle.grid_report.proofs.CellIntegrals.{integrals-given}
use Rattle.grid_report.proofs.Fitting.{fitted}
use Rattle.grid_report.proofs.Kept.{lawful-held}
use Rattle.grid_report.proofs.cells.grid.Goals as goal

pub returns-in_err-corners-clause-sound : goal.returns-in_err-corners-clause-sound
returns-in_err-corners-clause-sound g c = λ whole h page held e.
    let told = err_from_is_err_and c.from_residual.result c.from_residual.ensures.1 in
    let first = told.1 in
    let second = told.2 in
    let same : c.in_err-corners.field-0.0 ≡ Damaged page = cc in
    c.corners_below.ensures.sound whole h page held (c.in_err-corners.was ∙ ap Err same)

pub returns-in-Ok-clause-cells : goal.returns-in-Ok-clause-cells
returns-in-Ok-clause-cells g c = λ whole h held.
    let p = params_in c.args.house.now in
    let at = c.args.grid.now in
    let in_range : IsInRange p = subst IsInRange c.params-params.ensures.value c.params-params.ensures.in_range in
    let long : p.dims ≤ length at.cells = (let few = in_range.dims in omega arith) in
    let room = c.lawful_histories_have_room.ensures p h (lawful-held g.D.Disk g.X.DomIndex c.args.house.now whole h held) in
    integrals-given c.integral_by_corners.ensures c.answers_are_bounded.ensures.integrals p in_range h room c.args.version at (fitted p at c.requires)
    c.params-params.result c.as_slice.result.now c.in-Ok.values.items c.params-params.ensures.value long (c.as_slice.ensures.value ∙ c.in_ok-corners.ensures.corners whole h held) c.in-Ok.ensures
