use Rattle.std.proofs.Common.{◌⊎◌, Err, List, ap, sym, subst}
use Rattle.std.proofs.lemmas.Result.{err_from_is_err_and}
use Rattle.bw_types.specs.declared.tree.Tree.{Tree}
use Rattle.ports.specs.declared.page.StageFault.TheVariants.{Damaged}
use Rattle.corner_forest.specs.BatchDamage.{IsDamagedForBatch}
use Rattle.corner_forest.specs.Enters.{MayEnter, all_entered_at}
use Rattle.corner_forest.specs.Stands.{AreBalanced}
use Rattle.corner_forest.proofs.Exits.{exit_error}
use Rattle.corner_forest.proofs.batch.enter.Goals as goal

pub returns-in_err-roots-clause-sound : goal.returns-in_err-roots-clause-sound
returns-in_err-roots-clause-sound g c = λ entries page tells may balanced order asked.
    let batch = all_entered_at c.args.version c.args.batch.now in
    let before = g.S.Pages.map c.args.stage.now in
    let params = c.args.forest.now.params in
    let at = sym c.as_slice-2.ensures.value in
    let p = err_from_is_err_and c.from_residual-in_err-roots.result c.from_residual-in_err-roots.ensures.1 in
    let same = exit_error c.from_residual-in_err-roots.result c.in_err-roots.field-0.0 (Damaged page) p asked in
    c.in_err-roots.ensures.sound entries page tells
    (subst (λ (ts : List Tree). MayEnter g.X.DomIndex before params ts entries batch) at may)
    (subst (λ (ts : List Tree). AreBalanced g.X.DomIndex before params ts) at balanced)
    order (ap Err same)

pub returns-in_err-roots-clause-damaged : goal.returns-in_err-roots-clause-damaged
returns-in_err-roots-clause-damaged g c = λ page asked tells.
    let p = err_from_is_err_and c.from_residual-in_err-roots.result c.from_residual-in_err-roots.ensures.1 in
    let same = exit_error c.from_residual-in_err-roots.result c.in_err-roots.field-0.0 (Damaged page) p asked in
    subst (λ (ts : List Tree). IsDamagedForBatch g.X.DomIndex c.args.forest.now.params (all_entered_at c.args.version c.args.batch.now) ts (g.S.Pages.map c.args.stage.now) page
    ⊎ (g.S.Pages.free_in_order c.args.stage.now → ⊥)) c.as_slice-2.ensures.value
    (c.in_err-roots.ensures.damaged page (ap Err same) tells)
