use Rattle.std.proofs.Common.{ℕ, ◌≤◌, Bool, true, false, List, [], Err, refl, sym, subst, arith, ap}
use Rattle.bw_types.specs.declared.row.Row.{Row}
use Rattle.csv_rows.specs.Input.{input}
use Rattle.csv_rows.specs.Machine.{Step, step}
use Rattle.row_machine.specs.Housed.{MayTake, rows_committed}
use Rattle.row_machine.specs.Outbox.{gathered}
use Rattle.row_machine.specs.declared.desk.Desk.{Desk}
use Rattle.row_machine.proofs.Housing.{step_goes_on}
use Rattle.row_machine.proofs.Lasting.{text_lasts}
use Rattle.row_machine.proofs.Lined.{done_no_fault, done_no_limit, done_within, none_left}
use Rattle.row_machine.proofs.Serviced.{done_served, on_served, step_broke}
use Rattle.row_machine.specs.Serving.{LastsBeyond, ServesText, line_cost, state_at}
use Rattle.row_machine.proofs.serving.serve_text.Goals as goal

pub returns-in-Ok-Done-clause-serves : goal.returns-in-Ok-Done-clause-serves
returns-in-Ok-Done-clause-serves g c =
    let does = rw c.in-Ok-Done.field-0-is at c.in-Ok-Done.ensures.does in
    λ whole h may stands.
    done_served g.H.House whole c.args.desk.now.params h _ _ _ _ _ c.take_line.new.self c.in-Ok-Done.reply _ _ _ _ c.done.result
    (does.went whole h may stands)
    (λ e. does.leaves h (subst (λ (w : Bool). g.H.House.stands w (g.H.House.device c.args.desk.now.house) c.args.desk.now.params h) e stands))
    (step_goes_on c.args.desk.now.params c.args.number (state_at g.H.House h c.args.desk.now) c.args.line.now)
    (λ reading. does.reads whole h reading stands) does.quiet
    (λ e. does.charge h (subst (λ (w : Bool). g.H.House.stands w (g.H.House.device c.args.desk.now.house) c.args.desk.now.params h) e stands))
    c.done.ensures.gathers c.done.ensures.urgent c.done.ensures.ended

pub returns-in-Ok-Done-clause-lasts : goal.returns-in-Ok-Done-clause-lasts
returns-in-Ok-Done-clause-lasts g c =
    let does = rw c.in-Ok-Done.field-0-is at c.in-Ok-Done.ensures.does in
    λ h stands.
    let t : Step = step c.args.desk.now.params c.args.number (state_at g.H.House h c.args.desk.now) c.args.line.now in
    let rows : List Row = rows_committed (state_at g.H.House h c.args.desk.now) (input c.args.desk.now.params c.args.line.now) in
    let reading : Type 0 = MayTake false (input c.args.desk.now.params c.args.line.now) in
    let cost : ℕ = line_cost g.H.House.cost c.args.desk.now.params h c.args.line.now in
    on_served g.H.House (ServesText g.H.House true c.args.desk.now.params h t rows reading cost (g.H.House.device c.args.desk.now.house) (gathered c.args.outbox.now) (gathered c.done.new.outbox) c.done.new.outbox.is_urgent)
    (LastsBeyond g.H.House c.args.desk.now.params h (g.H.House.device c.args.desk.now.house)) c.take_line.new.self c.done.result
    (λ served. text_lasts g.H.House c.args.desk.now.params h t rows reading cost (g.H.House.device c.args.desk.now.house) (gathered c.args.outbox.now) (gathered c.done.new.outbox) c.done.new.outbox.is_urgent served
    (step_goes_on c.args.desk.now.params c.args.number (state_at g.H.House h c.args.desk.now) c.args.line.now))
    (done_served g.H.House true c.args.desk.now.params h t rows reading cost (g.H.House.device c.args.desk.now.house) c.take_line.new.self c.in-Ok-Done.reply (gathered c.args.outbox.now) (gathered c.done.new.outbox) c.args.outbox.now.is_urgent c.done.new.outbox.is_urgent c.done.result
    (does.went true h tt stands) (λ e. does.leaves h stands)
    (step_goes_on c.args.desk.now.params c.args.number (state_at g.H.House h c.args.desk.now) c.args.line.now)
    (λ reads. does.reads true h reads stands) does.quiet (λ e. does.charge h stands)
    c.done.ensures.gathers c.done.ensures.urgent c.done.ensures.ended)

pub returns-in-Ok-Done-clause-commits : goal.returns-in-Ok-Done-clause-commits
returns-in-Ok-Done-clause-commits g c = none_left _ c.done.result c.done.ensures.served

pub returns-in-Ok-Done-clause-within : goal.returns-in-Ok-Done-clause-within
returns-in-Ok-Done-clause-within g c = done_within c.done.result c.done.ensures.ended

pub returns-in-Ok-Done-clause-device_tells : goal.returns-in-Ok-Done-clause-device_tells
returns-in-Ok-Done-clause-device_tells g c = let does = rw c.in-Ok-Done.field-0-is at c.in-Ok-Done.ensures.does in does.tells

pub returns-in-Ok-Done-clause-faults : goal.returns-in-Ok-Done-clause-faults
returns-in-Ok-Done-clause-faults g c = let does = rw c.in-Ok-Done.field-0-is at c.in-Ok-Done.ensures.does in does.faults

pub returns-in-Ok-Done-clause-disk_fault : goal.returns-in-Ok-Done-clause-disk_fault
returns-in-Ok-Done-clause-disk_fault g c = done_no_fault _ c.done.result c.done.ensures.ended

pub returns-in-Ok-Commits-clause-commits : goal.returns-in-Ok-Commits-clause-commits
returns-in-Ok-Commits-clause-commits g c = (rw c.in-Ok-Commits.field-0-is at c.in-Ok-Commits.ensures.does, refl)

pub returns-in-Ok-Commits-clause-device_tells : goal.returns-in-Ok-Commits-clause-device_tells
returns-in-Ok-Commits-clause-device_tells g c =
    let does = rw c.in-Ok-Commits.field-0-is at c.in-Ok-Commits.ensures.does in
    ap (λ (d : Desk g.row.H.Denot g.row.H-Device.Denot g.H.House). g.H.House.tells (g.H.House.device d.house)) does.same

pub returns-in-Ok-Commits-clause-faults : goal.returns-in-Ok-Commits-clause-faults
returns-in-Ok-Commits-clause-faults g c =
    let does = rw c.in-Ok-Commits.field-0-is at c.in-Ok-Commits.ensures.does in
    subst (λ (d : Desk g.row.H.Denot g.row.H-Device.Denot g.H.House). g.H.House.faults (g.H.House.device c.args.desk.now.house) ≤ g.H.House.faults (g.H.House.device d.house)) (sym does.same) (omega arith)

pub returns-in-Err-clause-serves : goal.returns-in-Err-clause-serves
returns-in-Err-clause-serves g c = λ whole h may stands.
    step_broke g.H.House whole c.args.desk.now.params h _ _ _ _ _ (record { ending = c.in-Err.ending; device = g.H.House.device c.take_line.new.self.house })
    (c.in-Err.ensures.does.stops whole h may stands)
    (λ e. c.in-Err.ensures.does.leaves h (subst (λ (w : Bool). g.H.House.stands w (g.H.House.device c.args.desk.now.house) c.args.desk.now.params h) e stands))
    (step_goes_on c.args.desk.now.params c.args.number (state_at g.H.House h c.args.desk.now) c.args.line.now)
    (λ reading. c.in-Err.ensures.does.reads whole h reading stands) c.in-Err.ensures.does.quiet
    (λ e. c.in-Err.ensures.does.charge h (subst (λ (w : Bool). g.H.House.stands w (g.H.House.device c.args.desk.now.house) c.args.desk.now.params h) e stands))

pub returns-in-Err-clause-lasts : goal.returns-in-Err-clause-lasts
returns-in-Err-clause-lasts g c = λ h stands.
    text_lasts g.H.House c.args.desk.now.params h (step c.args.desk.now.params c.args.number (state_at g.H.House h c.args.desk.now) c.args.line.now) _ _ _ _ [] [] true (Err (record { ending = c.in-Err.ending; device = g.H.House.device c.take_line.new.self.house })) (step_goes_on c.args.desk.now.params c.args.number (state_at g.H.House h c.args.desk.now) c.args.line.now)
    (step_broke g.H.House true c.args.desk.now.params h _ _ _ _ _ (record { ending = c.in-Err.ending; device = g.H.House.device c.take_line.new.self.house })
    (c.in-Err.ensures.does.stops true h tt stands) (λ e. c.in-Err.ensures.does.leaves h stands)
    (step_goes_on c.args.desk.now.params c.args.number (state_at g.H.House h c.args.desk.now) c.args.line.now)
    (λ reading. c.in-Err.ensures.does.reads true h reading stands) c.in-Err.ensures.does.quiet (λ e. c.in-Err.ensures.does.charge h stands))

pub returns-in-Err-clause-within : goal.returns-in-Err-clause-within
returns-in-Err-clause-within g c = c.in-Err.ensures.does.own

pub returns-in-Err-clause-device_tells : goal.returns-in-Err-clause-device_tells
returns-in-Err-clause-device_tells g c = c.in-Err.ensures.does.tells

pub returns-in-Err-clause-faults : goal.returns-in-Err-clause-faults
returns-in-Err-clause-faults g c = c.in-Err.ensures.does.faults

pub returns-in-Err-clause-disk_fault : goal.returns-in-Err-clause-disk_fault
returns-in-Err-clause-disk_fault g c = c.in-Err.ensures.does.disk

pub returns-in-Ok-Done-clause-at_limit : goal.returns-in-Ok-Done-clause-at_limit
returns-in-Ok-Done-clause-at_limit g c = done_no_limit _ c.done.result c.done.ensures.ended

pub returns-in-Err-clause-at_limit : goal.returns-in-Err-clause-at_limit
returns-in-Err-clause-at_limit g c = c.in-Err.ensures.does.limit
