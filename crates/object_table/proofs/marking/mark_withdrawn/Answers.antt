use Rattle.std.proofs.Common.{inl, subst, ap, ◌∙◌}
use Rattle.std.proofs.lemmas.Result.{IfOk-weaker}
use Rattle.page_layout.specs.Damage.{IsDamagedBelow, NothingBeside}
use Rattle.object_table.specs.declared.form.Form.TheVariants.{ByLives}
use Rattle.object_table.specs.declared.place.Place.{Place}
use Rattle.object_table.specs.Damage.{FitsAsked, LeadsTo, root_place}
use Rattle.object_table.specs.Edits.{CanWithdraw}
use Rattle.object_table.specs.Keys.{greatest_key}
use Rattle.object_table.proofs.MarkSteps.{marked_root, marked_stands, can_down, can_in_table}
use Rattle.object_table.proofs.SoundAsked.{root_undamaged}
use Rattle.object_table.proofs.marking.mark_withdrawn.Goals as goal

pub returns-clause-stands : goal.returns-clause-stands
returns-clause-stands g c =
    IfOk-weaker c.mark_below.result _ _ (λ u call tells lives s. marked_stands (g.S.Pages.map c.args.stage.now) (g.S.Pages.map c.mark_below.new.stage) c.args.table.now lives c.args.id c.args.version c.args.event s
    (marked_root c.args.table.now.levels (g.S.Pages.map c.args.stage.now) (g.S.Pages.map c.mark_below.new.stage) c.args.table.now.root c.args.id c.args.version c.args.event c.root_place-place.result (greatest_key c.args.id) c.if-table-eq0.false (c.root_place-place.ensures ∙ ap root_place c.key_of.ensures) s.nodes s.once (call tells))) c.mark_below.ensures.marked

pub returns-clause-change : goal.returns-clause-change
returns-clause-change g c =
    IfOk-weaker c.mark_below.result _ _ (λ u call tells lives s.
    let r = marked_root c.args.table.now.levels (g.S.Pages.map c.args.stage.now) (g.S.Pages.map c.mark_below.new.stage) c.args.table.now.root c.args.id c.args.version c.args.event c.root_place-place.result (greatest_key c.args.id) c.if-table-eq0.false (c.root_place-place.ensures ∙ ap root_place c.key_of.ensures) s.nodes s.once (call tells) in (r.pages, r.change)) c.mark_below.ensures.marked

pub returns-clause-damaged : goal.returns-clause-damaged
returns-clause-damaged g c = λ page e tells.
    inl (subst (λ (q : Place). IsDamagedBelow (FitsAsked (CanWithdraw c.args.id c.args.version) ByLives) LeadsTo NothingBeside (g.S.Pages.map c.args.stage.now) c.args.table.now.levels q c.args.table.now.root page) (c.root_place-place.ensures ∙ ap root_place c.key_of.ensures) (c.mark_below.ensures.damaged page e tells))

pub returns-clause-sound : goal.returns-clause-sound
returns-clause-sound g c = λ lives page tells s can e.
    root_undamaged (CanWithdraw c.args.id c.args.version) (greatest_key c.args.id) (can_down c.args.id c.args.version) c.args.table.now.levels (g.S.Pages.map c.args.stage.now) c.args.table.now.root page c.root_place-place.result (c.root_place-place.ensures ∙ ap root_place c.key_of.ensures) s.nodes
    (can_in_table (g.S.Pages.map c.args.stage.now) c.args.table.now lives c.args.id c.args.version s can) (c.mark_below.ensures.damaged page e tells)
