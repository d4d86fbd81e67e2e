use Rattle.std.proofs.Common.{◌≡◌, ℕ, Err, subst, ap, ◌∙◌}
use Rattle.std.proofs.lemmas.Result.{err_from_is_err_and}
use Rattle.ports.specs.declared.page.PageFault.TheVariants.{Damaged}
use Rattle.page_layout.specs.Damage.{IsDamagedBelow, NothingBeside}
use Rattle.object_table.specs.declared.place.Place.{Place}
use Rattle.object_table.specs.Damage.{FitsPlace, LeadsTo, root_place}
use Rattle.object_table.specs.Keys.{greatest_key}
use Rattle.object_table.specs.Lives.{last_life, lives_below}
use Rattle.object_table.specs.Stands.{StandsBelow}
use Rattle.object_table.proofs.Exits.{exit_error}
use Rattle.object_table.proofs.LastLives.{root_last}
use Rattle.object_table.proofs.Sound.{root_undamaged, to_inside}
use Rattle.object_table.proofs.finding.find_in.Goals as goal

pub returns-clause-last : goal.returns-clause-last
returns-clause-last g c = λ tells lives s.
    let m = g.P.Pages.map c.args.pages.now in
    let table = c.args.table.now in
    let place : c.root_place-place.result ≡ root_place (greatest_key c.args.id) = c.root_place-place.ensures ∙ ap root_place c.key_of.ensures in
    let came = subst (λ (p : Place). (least : ℕ) → p.sought ≡ greatest_key c.args.id → StandsBelow c.args.form table.levels m table.root p.low p.high least
    → c.in_ok-found.found ≡ last_life c.args.id (lives_below c.args.form table.levels m table.root)) place (c.in_ok-found.ensures.last tells) in
    root_last c.args.form table.levels m table.root c.args.id c.in_ok-found.found came c.if-table-eq0.false s.nodes ∙ ap (last_life c.args.id) s.has

pub returns-in_err-found-clause-sound : goal.returns-in_err-found-clause-sound
returns-in_err-found-clause-sound g c = λ lives page tells s e.
    let m = g.P.Pages.map c.args.pages.now in
    let table = c.args.table.now in
    let p = err_from_is_err_and c.from_residual.result c.from_residual.ensures.1 in
    let same = exit_error c.from_residual.result c.in_err-found.field-0.0 (Damaged page) p e in
    let d = c.in_err-found.ensures.damaged page (ap Err same) tells in
    let d2 = subst (λ (q : Place). IsDamagedBelow (FitsPlace c.args.form) LeadsTo NothingBeside m table.levels q table.root page) c.root_place-place.ensures d in
    root_undamaged LeadsTo to_inside c.args.form table.levels m table.root c.key_of.result page s.nodes d2
