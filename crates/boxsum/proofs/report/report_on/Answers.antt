use Rattle.std.proofs.Common.{false, subst, sym, arith, rules}
use Rattle.bw_types.specs.declared.params.Params.{Params}
use Rattle.grid_report.specs.GridCosts.{grid_line_cost}
use Rattle.grid_report.specs.GridReplies.{grid_replies}
use Rattle.page_warehouse.specs.Holds.{HoldsTrees}
use Rattle.page_warehouse.specs.Shown.{disk_in}
use Rattle.boxsum.specs.Held.{warehouses}
use Rattle.boxsum.specs.Ran.{ReportRan}
use Rattle.boxsum.proofs.AnsweredEach.{AnswersSource}
use Rattle.boxsum.proofs.AnswersFrom.{answers_opened, answers_refused}
use Rattle.boxsum.proofs.Endings.{port_cause}
use Rattle.boxsum.proofs.ReadsWarehouse.{GivesBack, made_where_damaged, stands_here, warehouse_left_alike, warehouse_opened_over, warehouse_refused_with}
use Rattle.boxsum.proofs.report.report_on.Goals as goal

pub returns-in-Err-clause-ran : goal.returns-in-Err-clause-ran
returns-in-Err-clause-ran g c =
    let e = c.in-Err.ensures in
    let f = c.in-Err.refused.fault in
    answers_refused g.D.Disk g.S.Source g.K.Sink g.X.DomIndex c.args.disk (warehouses g.X.DomIndex) (λ params h x. HoldsTrees g.X.DomIndex x params h) grid_replies
    (λ params h. grid_line_cost g.X.DomIndex.cost params h) c.args.source.now c.args.sink.now (made_where_damaged g.X.DomIndex.DIMS) f (record { status = c.from.result; disk = c.in-Err.refused.disk }) c.from.ensures
    (record { tells = e.writes.tells; any_moment = e.any_moment; stands_on = e.stands_on; untouched = e.untouched })
    (warehouse_refused_with g.D.Disk g.X.DomIndex c.args.disk f c.in-Err.refused.disk e.refused) e.writes.faults e.refused.sound
    (λ told. let most = e.writes.at_most told in omega arith)

pub returns-clause-ran : goal.returns-clause-ran
returns-clause-ran g c =
    let e = c.in-Ok.ensures in
    let o = e.opened in
    let before = c.in-Ok.house in
    let a = c.answer_grids-answered.ensures in
    let after = c.answer_grids-answered.result.house in
    let ended = c.answer_grids-answered.result.ending in
    let s = c.from-2.result in
    let back : GivesBack g.D.Disk g.X.DomIndex c.args.disk (disk_in before) = record { tells = e.writes.tells; any_moment = e.any_moment; stands_on = e.stands_on; untouched = e.untouched } in
    subst (λ (disk : g.row.D.Denot). ReportRan g.D.Disk g.S.Source g.K.Sink g.X.DomIndex c.args.disk c.args.source.now c.answer_grids-answered.new.source c.args.sink.now c.answer_grids-answered.new.sink
    (record { status = s; disk = disk })) (sym c.into_disk.ensures)
    (answers_opened g.D.Disk g.S.Source g.K.Sink g.X.DomIndex c.args.disk (warehouses g.X.DomIndex) (λ params h x. HoldsTrees g.X.DomIndex x params h) grid_replies
    (λ params h. grid_line_cost g.X.DomIndex.cost params h) c.args.source.now c.answer_grids-answered.new.source c.args.sink.now c.answer_grids-answered.new.sink (disk_in before) (disk_in after)
    (warehouse_opened_over g.D.Disk g.X.DomIndex c.args.disk before o) back (warehouse_left_alike g.D.Disk g.X.DomIndex c.args.disk before o back after a.kept)
    ended s c.from-2.ensures
    (λ params h told held still.
    let here = stands_here g.D.Disk g.X.DomIndex c.args.disk before o back false params h (told, held) in
    subst (λ (p : Params). AnswersSource g.S.Source g.K.Sink c.args.source.now c.answer_grids-answered.new.source c.args.sink.now c.answer_grids-answered.new.sink ended
    (grid_replies p h) (grid_line_cost g.X.DomIndex.cost p h) (g.D.Disk.reads (disk_in before)) (g.D.Disk.reads (disk_in after))) here.0 (a.answers still h here.1))
    (λ params h told held page. a.sound h page (stands_here g.D.Disk g.X.DomIndex c.args.disk before o back false params h (told, held)).1)
    a.tells (port_cause g.S.Source g.K.Sink c.args.source.now c.answer_grids-answered.new.source c.args.sink.now c.answer_grids-answered.new.sink ended s c.from-2.ensures a.read_fault a.write_fault a.input_limit)
    a.at_end (λ told. let most = e.writes.at_most told in omega arith))

pub returns-clause-causes : goal.returns-clause-causes
returns-clause-causes g c = record {
  ports = port_cause g.S.Source g.K.Sink c.args.source.now c.answer_grids-answered.new.source c.args.sink.now c.answer_grids-answered.new.sink
      c.answer_grids-answered.result.ending c.from-2.result c.from-2.ensures c.answer_grids-answered.ensures.read_fault c.answer_grids-answered.ensures.write_fault c.answer_grids-answered.ensures.input_limit;
  disk_fault = search rules;
}
