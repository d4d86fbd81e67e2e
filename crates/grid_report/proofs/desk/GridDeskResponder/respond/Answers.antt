use Rattle.std.proofs.Common.{◌∙◌, Option, ap, sym, arith}
use Rattle.bw_types.specs.declared.params.Params.{Params}
use Rattle.page_warehouse.specs.Shown.{params_in}
use Rattle.grid_report.specs.GridCosts.{row_cost}
use Rattle.grid_report.specs.GridRows.{grid_row}
use Rattle.grid_report.specs.declared.asked.GridRow.{GridRow}
use Rattle.grid_report.proofs.desk.GridDeskResponder.respond.Goals as goal

pub returns-in-Some-clause-sound : goal.returns-in-Some-clause-sound
returns-in-Some-clause-sound g c = λ told page stands. c.answer_row.ensures.sound told.history page stands.holds

pub returns-in-Some-clause-reads : goal.returns-in-Some-clause-reads
returns-in-Some-clause-reads g c = λ told stands.
    let cost = g.X.DomIndex.cost in
    let asked = sym c.in-Some.is ∙ c.in-Ok.ensures.read ∙ ap (λ (p : Params). grid_row p c.args.line.now) (c.params-params.ensures.value ∙ stands.params) in
    let same = ap (λ (row : Option GridRow). row_cost cost (params_in c.args.self.now.house) told.history row) asked
    ∙ ap (λ (p : Params). row_cost cost p told.history (grid_row told.params c.args.line.now)) stands.params in
    let read = c.answer_row.ensures.reads told.history stands.holds in
    omega (arith, same, read)
