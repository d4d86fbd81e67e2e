use Rattle.std.proofs.Common.{◌≡◌, ℕ, false, sym, ap, subst}
use Rattle.bw_types.specs.History.{History}
use Rattle.page_disk.specs.declared.disk.Disk.{Ghosts}
use Rattle.dom_index.specs.declared.index.DomIndex.{Ghosts as IndexGhosts}
use Rattle.page_warehouse.specs.Shown.{HoldsHistory, disk_in, params_in}
use Rattle.page_warehouse.specs.declared.state.Warehouse.{Warehouse}
use Rattle.row_machine.specs.Answering.{AnswersLines}
use Rattle.grid_report.specs.Desk.{StandsFor, house_of}
use Rattle.grid_report.specs.GridCosts.{grid_line_cost}
use Rattle.grid_report.specs.GridReplies.{grid_replies}
use Rattle.grid_report.specs.declared.desk.GridDesk.{GridDesk}
use Rattle.boxsum.proofs.report.answer_grids.Goals as goal

-- a desk over a warehouse answers by what that holds
stands_over : {D X : Type 0} (d : Ghosts D) (i : IndexGhosts X) (desk : GridDesk D X d i) (house : Warehouse D X d i) (h : History) → house_of desk ≡ house
    → HoldsHistory d i false (disk_in house) (params_in house) h → StandsFor d i desk (record { params = params_in house; history = h })
stands_over {D} {X} d i desk house h is held = record {
  params = ap params_in is;
  holds = subst (λ (w : Warehouse D X d i). HoldsHistory d i false (disk_in w) (params_in w) h) (sym is) held;
}

pub returns-clause-answers : goal.returns-clause-answers
returns-clause-answers g c = λ told h held.
    let params = params_in c.args.house in
    let reply = grid_replies params h in
    let cost = grid_line_cost g.X.DomIndex.cost params h in
    let ending = c.answer_lines-ending in
    let answers = ending.ensures.answers told (record { params = params; history = h }) (stands_over g.D.Disk g.X.DomIndex c.new-desk.result c.args.house h c.new-desk.ensures held) in
    subst (λ (n : ℕ). AnswersLines reply cost (g.K.Sink.tells c.args.sink.now) (g.K.Sink.tells ending.new.sink) (g.S.Source.tells ending.new.source)
    (g.S.Source.left c.args.source.now) (g.S.Source.left ending.new.source) ending.result (g.K.Sink.written c.args.sink.now) (g.K.Sink.written ending.new.sink)
    n (g.D.Disk.reads (disk_in c.into_house.result)))
    (ap (λ w. g.D.Disk.reads (disk_in w)) c.new-desk.ensures)
    (subst (λ (n : ℕ). AnswersLines reply cost (g.K.Sink.tells c.args.sink.now) (g.K.Sink.tells ending.new.sink) (g.S.Source.tells ending.new.source)
    (g.S.Source.left c.args.source.now) (g.S.Source.left ending.new.source) ending.result (g.K.Sink.written c.args.sink.now) (g.K.Sink.written ending.new.sink)
    (g.D.Disk.reads (disk_in (house_of c.new-desk.result))) n)
    (ap (λ w. g.D.Disk.reads (disk_in w)) (sym c.into_house.ensures)) answers)

pub returns-clause-sound : goal.returns-clause-sound
returns-clause-sound g c = λ h page held.
    c.answer_lines-ending.ensures.sound (record { params = params_in c.args.house; history = h }) page
    (stands_over g.D.Disk g.X.DomIndex c.new-desk.result c.args.house h c.new-desk.ensures held)
