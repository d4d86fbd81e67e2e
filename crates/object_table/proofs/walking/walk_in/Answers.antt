use Rattle.std.proofs.Common.{ℕ, List, Err, subst, ap}
use Rattle.std.proofs.lemmas.Result.{err_from_is_err_and}
use Rattle.bw_types.specs.declared.dated.Dated.{Dated}
use Rattle.ports.specs.declared.page.PageFault.TheVariants.{Damaged}
use Rattle.page_layout.specs.Damage.{IsDamagedBelow, NothingBeside}
use Rattle.object_table.specs.declared.place.Place.{Place}
use Rattle.object_table.specs.Damage.{FitsPlace, LeadsOn}
use Rattle.object_table.specs.Lives.{AreNext, lives_below}
use Rattle.object_table.specs.Stands.{StandsBelow}
use Rattle.object_table.proofs.Exits.{exit_error}
use Rattle.object_table.proofs.Firsts.{root_next}
use Rattle.object_table.proofs.Sound.{root_undamaged, on_inside}
use Rattle.object_table.proofs.walking.walk_in.Goals as goal

pub returns-clause-next : goal.returns-clause-next
returns-clause-next g c = λ tells lives s.
    let m = g.P.Pages.map c.args.pages.now in
    let table = c.args.table.now in
    let found : List Dated = c.walk_below.new.found.items in
    let came = subst (λ (p : Place). (least : ℕ) → StandsBelow c.args.form table.levels m table.root p.low p.high least
    → AreNext found p.sought (lives_below c.args.form table.levels m table.root)) c.root_place-place.ensures (c.in_ok-walk_below.ensures.next tells) in
    subst (λ (ds : List Dated). AreNext found c.args.sought ds) s.has (root_next c.args.form table.levels m table.root c.args.sought found came c.if-table-eq0.false s.nodes)

pub returns-in_err-walk_below-clause-sound : goal.returns-in_err-walk_below-clause-sound
returns-in_err-walk_below-clause-sound g c = λ lives page tells s e.
    let m = g.P.Pages.map c.args.pages.now in
    let table = c.args.table.now in
    let p = err_from_is_err_and c.from_residual.result c.from_residual.ensures.1 in
    let same = exit_error c.from_residual.result c.in_err-walk_below.field-0.0 (Damaged page) p e in
    let d = c.in_err-walk_below.ensures.damaged page (ap Err same) tells in
    let d2 = subst (λ (q : Place). IsDamagedBelow (FitsPlace c.args.form) LeadsOn NothingBeside m table.levels q table.root page) c.root_place-place.ensures d in
    root_undamaged LeadsOn on_inside c.args.form table.levels m table.root c.args.sought page s.nodes d2
