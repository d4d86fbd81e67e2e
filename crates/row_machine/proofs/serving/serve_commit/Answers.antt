use Rattle.std.proofs.Common.{Bool, true, false, [], Option, Some, Err, subst, sym, refl}
use Rattle.csv_rows.specs.Machine.{line_step}
use Rattle.csv_rows.specs.declared.input.Input.{Input}
use Rattle.csv_rows.specs.declared.input.Input.TheVariants.{Commit}
use Rattle.row_machine.specs.Housed.{MayTake, input_cost, rows_committed}
use Rattle.row_machine.specs.Outbox.{gathered}
use Rattle.row_machine.specs.Serving.{ServesText, state_at}
use Rattle.row_machine.proofs.Housing.{commit_goes_on}
use Rattle.row_machine.proofs.Lasting.{text_lasts}
use Rattle.row_machine.proofs.Lined.{reply_no_limit, reply_within}
use Rattle.row_machine.proofs.Serviced.{text_served, step_broke}
use Rattle.row_machine.proofs.serving.serve_commit.Goals as goal

pub returns-in-Ok-clause-serves : goal.returns-in-Ok-clause-serves
returns-in-Ok-clause-serves g c = λ n line whole h spells is_whole stands.
    subst (λ (i : Option Input). ServesText g.H.House whole c.args.desk.params h (line_step c.args.desk.params n (state_at g.H.House h c.args.desk) i)
    (rows_committed (state_at g.H.House h c.args.desk) i) (MayTake false i) (input_cost g.H.House.cost c.args.desk.params h i) (g.H.House.device c.args.desk.house) (gathered c.args.outbox.now) (gathered c.reply_to.new.outbox) c.reply_to.new.outbox.is_urgent c.reply_to.result)
    (sym spells)
    (text_served g.H.House whole c.args.desk.params h _ _ _ _ _ c.in-Ok.taken _ _ _ _ c.reply_to.result
    (c.in-Ok.ensures.went whole h is_whole stands)
    (λ e. c.in-Ok.ensures.leaves h (subst (λ (w : Bool). g.H.House.stands w (g.H.House.device c.args.desk.house) c.args.desk.params h) e stands))
    (commit_goes_on (state_at g.H.House h c.args.desk) c.args.session _)
    (λ reading. absurd reading) (λ reading. absurd reading)
    (λ e. c.in-Ok.ensures.charge h (subst (λ (w : Bool). g.H.House.stands w (g.H.House.device c.args.desk.house) c.args.desk.params h) e stands))
    c.reply_to.ensures.same c.reply_to.ensures.gathers c.reply_to.ensures.urgent c.reply_to.ensures.ended)

pub returns-in-Err-clause-serves : goal.returns-in-Err-clause-serves
returns-in-Err-clause-serves g c = λ n line whole h spells is_whole stands.
    subst (λ (i : Option Input). ServesText g.H.House whole c.args.desk.params h (line_step c.args.desk.params n (state_at g.H.House h c.args.desk) i)
    (rows_committed (state_at g.H.House h c.args.desk) i) (MayTake false i) (input_cost g.H.House.cost c.args.desk.params h i) (g.H.House.device c.args.desk.house) (gathered c.args.outbox.now) (gathered c.args.outbox.now) c.args.outbox.now.is_urgent (Err c.in-Err.ran))
    (sym spells)
    (step_broke g.H.House whole c.args.desk.params h _ _ _ _ _ c.in-Err.ran
    (c.in-Err.ensures.stops whole h is_whole stands)
    (λ e. c.in-Err.ensures.leaves h (subst (λ (w : Bool). g.H.House.stands w (g.H.House.device c.args.desk.house) c.args.desk.params h) e stands))
    (commit_goes_on (state_at g.H.House h c.args.desk) c.args.session _)
    (λ reading. absurd reading) (λ reading. absurd reading)
    (λ e. c.in-Err.ensures.charge h (subst (λ (w : Bool). g.H.House.stands w (g.H.House.device c.args.desk.house) c.args.desk.params h) e stands)))

pub returns-in-Ok-clause-within : goal.returns-in-Ok-clause-within
returns-in-Ok-clause-within g c = reply_within _ c.reply_to.result c.reply_to.ensures.ended

pub returns-in-Ok-clause-lasts : goal.returns-in-Ok-clause-lasts
returns-in-Ok-clause-lasts g c = λ h stands.
    text_lasts g.H.House c.args.desk.params h _ _ (MayTake false (Some (Commit c.args.session))) 0 _ _ _ _ c.reply_to.result (commit_goes_on (state_at g.H.House h c.args.desk) c.args.session _)
    (text_served g.H.House true c.args.desk.params h _ _ _ _ _ c.in-Ok.taken _ _ _ _ c.reply_to.result
    (c.in-Ok.ensures.went true h refl stands) (λ e. c.in-Ok.ensures.leaves h stands)
    (commit_goes_on (state_at g.H.House h c.args.desk) c.args.session _)
    (λ reading. absurd reading) (λ reading. absurd reading) (λ e. c.in-Ok.ensures.charge h stands)
    c.reply_to.ensures.same c.reply_to.ensures.gathers c.reply_to.ensures.urgent c.reply_to.ensures.ended)

pub returns-in-Err-clause-lasts : goal.returns-in-Err-clause-lasts
returns-in-Err-clause-lasts g c = λ h stands.
    text_lasts g.H.House c.args.desk.params h (line_step c.args.desk.params 0 (state_at g.H.House h c.args.desk) (Some (Commit c.args.session))) _ (MayTake false (Some (Commit c.args.session))) 0 _ [] [] true (Err c.in-Err.ran) (commit_goes_on (state_at g.H.House h c.args.desk) c.args.session _)
    (step_broke g.H.House true c.args.desk.params h _ _ _ _ _ c.in-Err.ran
    (c.in-Err.ensures.stops true h refl stands) (λ e. c.in-Err.ensures.leaves h stands)
    (commit_goes_on (state_at g.H.House h c.args.desk) c.args.session _)
    (λ reading. absurd reading) (λ reading. absurd reading) (λ e. c.in-Err.ensures.charge h stands))

pub returns-in-Ok-clause-at_limit : goal.returns-in-Ok-clause-at_limit
returns-in-Ok-clause-at_limit g c = reply_no_limit _ _ c.reply_to.result c.reply_to.ensures.ended

pub returns-in-Err-clause-at_limit : goal.returns-in-Err-clause-at_limit
returns-in-Err-clause-at_limit g c = c.in-Err.ensures.limit
