use Rattle.std.proofs.Common.{◌≡◌, ℕ, ◌+◌, ◌<◌, ◌^◌, IsTrue, true, Option, None, IfOk, sym, ◌∙◌, ap, subst}
use Rattle.std.specs.List.{list_all}
use Rattle.bw_types.specs.Fits.{row_fits}
use Rattle.bw_types.specs.History.{History, flat}
use Rattle.bw_types.specs.Refusals.{first_refusal, total_mass}
use Rattle.bw_types.specs.declared.params.Params.{Params}
use Rattle.bw_types.specs.declared.refusal.Refusal.{Refusal}
use Rattle.page_warehouse.specs.Ids.{life_told}
use Rattle.object_table.specs.Lives.{last_life, table_lives}
use Rattle.page_layout.specs.declared.meta.Meta.{Meta}
use Rattle.page_space.specs.Shown.{IsInOrder, disk_of, map_of, meta_of, params_of}
use Rattle.session_book.specs.Told.{IsToldOf}
use Rattle.page_warehouse.specs.Holds.{table_form}
use Rattle.page_warehouse.specs.Shown.{HoldsHistory}
use Rattle.page_warehouse.proofs.Here.{here, table_here, told_here}
use Rattle.page_warehouse.proofs.Queried.{if_ok}
use Rattle.page_warehouse.proofs.state.Warehouse.judge.Goals as goal

pub first_refusal-found-requires-clause-fit : goal.first_refusal-found-requires-clause-fit
first_refusal-found-requires-clause-fit g c = subst (λ (p : Params). IsTrue (list_all (row_fits p) c.args.rows.now)) (sym c.params-params.ensures.value) c.requires.fit

pub returns-clause-ok : goal.returns-clause-ok
returns-clause-ok g c =
    let space = c.args.self.space in
    let P = (λ (refusal : Option Refusal). (h : History) → HoldsHistory g.D.Disk g.X.DomIndex true (disk_of space) (params_of space) h → refusal ≡ first_refusal (params_of space) h c.args.rows.now) in
    if_ok _ P c.first_refusal-found.result
    (λ refusal found h held.
    let now = here g.X.DomIndex c.holds_one.ensures.one (g.D.Disk.image (disk_of space)) (params_of space) (meta_of space) (map_of space) (IsInOrder space) (c.is_held.ensures.held held.0) h held.1 in
    let form = c.form_of-form.ensures ∙ ap table_form c.meta-3.ensures.value in
    let table = ap (λ (m : Meta). m.table) c.meta-4.ensures.value in
    let told = told_here g.X.DomIndex c.table_tells_ids.ensures.ids (params_of space) (meta_of space) (map_of space) h now c.form_of-form.result c.meta-4.result.now.table c.meta.result.now.events c.meta-2.result.now.mass form table
    (ap (λ (m : Meta). m.events) c.meta.ensures.value) (ap (λ (m : Meta). m.mass) c.meta-2.ensures.value) in
    let same = c.params-params.ensures.value in
    let lives : ℕ → _ = (λ id. life_told (last_life id (table_lives c.form_of-form.result (map_of space) c.meta-4.result.now.table))) in
    found (held.0, (now.table.kept, table_here g.X.DomIndex (params_of space) (meta_of space) (map_of space) h now c.form_of-form.result c.meta-4.result.now.table form table)) h
    (subst (λ (p : Params). IsToldOf p lives c.meta.result.now.events c.meta-2.result.now.mass h) (sym same) told)
    ∙ ap (λ (p : Params). first_refusal p h c.args.rows.now) same)
    c.first_refusal-found.ensures.ok

pub returns-clause-light : goal.returns-clause-light
returns-clause-light g c =
    subst (λ (p : Params). IfOk c.first_refusal-found.result (λ refusal. refusal ≡ None → (meta_of c.args.self.space).mass + total_mass p (flat c.args.rows.now) < 2 ^ 126)) c.params-params.ensures.value
    (subst (λ (m : Meta). IfOk c.first_refusal-found.result (λ refusal. refusal ≡ None → m.mass + total_mass c.params-params.result (flat c.args.rows.now) < 2 ^ 126)) c.meta-2.ensures.value c.first_refusal-found.ensures.light)

pub returns-clause-sound : goal.returns-clause-sound
returns-clause-sound g c = λ h page held asked.
    let space = c.args.self.space in
    let now = here g.X.DomIndex c.holds_one.ensures.one (g.D.Disk.image (disk_of space)) (params_of space) (meta_of space) (map_of space) (IsInOrder space) (c.is_held.ensures.held held.0) h held.1 in
    let form = c.form_of-form.ensures ∙ ap table_form c.meta-3.ensures.value in
    let table = ap (λ (m : Meta). m.table) c.meta-4.ensures.value in
    c.first_refusal-found.ensures.damaged page asked (held.0, (now.table.kept, table_here g.X.DomIndex (params_of space) (meta_of space) (map_of space) h now c.form_of-form.result c.meta-4.result.now.table form table))
