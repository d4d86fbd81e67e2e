use Rattle.std.proofs.Common.{◌≡◌, ◌≤◌, ◌<◌, ◌^◌, inl, inr, IsTrue, ℕ, List, Err, arith, sym, subst, ap, ◌∙◌}
use Rattle.std.proofs.lemmas.Result.{err_from_is_err_and}
use Rattle.bw_types.specs.declared.dated.Dated.{Dated}
use Rattle.ports.specs.declared.page.StageFault.TheVariants.{Damaged}
use Rattle.page_layout.specs.Dated.{by_life_fits}
use Rattle.page_layout.specs.Damage.{IsDamagedBelow, NothingBeside}
use Rattle.object_table.specs.declared.form.Form.TheVariants.{ByLives}
use Rattle.object_table.specs.declared.place.Place.{Place}
use Rattle.object_table.specs.Damage.{FitsAsked, HaveNot, IsDamagedForEnter, IsFullBelow, LeadsTo, root_place}
use Rattle.object_table.specs.Edits.{IsNewLife, with_object}
use Rattle.object_table.specs.Keys.{key}
use Rattle.object_table.specs.Stands.{TableStands}
use Rattle.object_table.proofs.Exits.{exit_error, same_damaged}
use Rattle.object_table.proofs.Growing.{Grown, grown_stands, grown_none, grown_some, grown_leaf, entered_root, second_of_root, root_there, full_root, full_there}
use Rattle.object_table.proofs.LastOnes.{fresh_in_table}
use Rattle.object_table.proofs.Low.{table_low}
use Rattle.object_table.proofs.SoundAsked.{root_undamaged, not_down}
use Rattle.object_table.proofs.entering.enter.Goals.{then-table-ge16-via-then-table-ge16, then-table-ge16-via-else-table-ge16+then-table-lt3}
use Rattle.object_table.proofs.entering.enter.Given
use Rattle.object_table.proofs.entering.enter.Goals as goal

pub returns-then-table-eq0-clause-stands : goal.returns-then-table-eq0-clause-stands
returns-then-table-eq0-clause-stands g c = λ tells lives s.
    let grown = grown_leaf c.args.table.now c.grown.result (g.S.Pages.map c.args.stage.now) (g.S.Pages.map c.first_leaf.new.stage) c.in_ok-root.root c.copied_dated.result c.if-table-eq0.true c.grown.ensures.root c.grown.ensures.levels
    (subst (λ (d : Dated). IsTrue (by_life_fits d)) (sym c.copied_dated.ensures.value) c.requires) c.copied_dated.ensures.typed (c.in_ok-root.ensures.made tells) in
    subst (λ (d : Dated). TableStands ByLives (g.S.Pages.map c.first_leaf.new.stage) c.grown.result (with_object d lives)) c.copied_dated.ensures.value
    (grown_stands (g.S.Pages.map c.args.stage.now) (g.S.Pages.map c.first_leaf.new.stage) c.args.table.now c.grown.result lives c.copied_dated.result s c.grown.ensures.count c.grown.ensures.changes c.grown.ensures.last grown)

pub returns-in_err-enter_below-clause-damaged : goal.returns-in_err-enter_below-clause-damaged
returns-in_err-enter_below-clause-damaged g c = λ page e tells.
    let p = err_from_is_err_and c.from_residual-in_err-enter_below.result c.from_residual-in_err-enter_below.ensures.1 in
    let same = exit_error c.from_residual-in_err-enter_below.result c.in_err-enter_below.field-0.0 (Damaged page) p e in
    subst (λ (d : Dated). IsDamagedForEnter (g.S.Pages.map c.args.stage.now) (g.S.Pages.free_in_order c.args.stage.now) c.args.table.now d page) c.copied_dated.ensures.value
    (elim (c.in_err-enter_below.ensures.damaged page (ap Err same) tells) [
      | inl why ↦ inl (subst (λ (q : Place). IsDamagedBelow (FitsAsked (HaveNot (key c.copied_dated.result)) ByLives) LeadsTo NothingBeside (g.S.Pages.map c.args.stage.now) c.args.table.now.levels q c.args.table.now.root page) (c.root_place-place.ensures ∙ ap root_place c.key.ensures) why)
      | inr unordered ↦ inr (inr (inr unordered))
    ])

pub returns-in_err-enter_below-clause-sound : goal.returns-in_err-enter_below-clause-sound
returns-in_err-enter_below-clause-sound g c = λ lives page tells s new few ordered e.
    let p = err_from_is_err_and c.from_residual-in_err-enter_below.result c.from_residual-in_err-enter_below.ensures.1 in
    let same = exit_error c.from_residual-in_err-enter_below.result c.in_err-enter_below.field-0.0 (Damaged page) p e in
    let fresh = fresh_in_table (g.S.Pages.map c.args.stage.now) c.args.table.now lives c.copied_dated.result s c.copied_dated.ensures.typed.life (subst (λ (d : Dated). IsNewLife lives d) (sym c.copied_dated.ensures.value) new) in
    elim (c.in_err-enter_below.ensures.damaged page (ap Err same) tells) [
      | inl why ↦ root_undamaged (HaveNot (key c.copied_dated.result)) (key c.copied_dated.result) (not_down (key c.copied_dated.result) (key c.copied_dated.result)) c.args.table.now.levels (g.S.Pages.map c.args.stage.now) c.args.table.now.root page c.root_place-place.result (c.root_place-place.ensures ∙ ap root_place c.key.ensures) s.nodes fresh why
      | inr unordered ↦ unordered ordered
    ]

pub returns-then-table-ge16-clause-damaged : goal.returns-then-table-ge16-clause-damaged
returns-then-table-ge16-clause-damaged g c = λ page e tells.
    let root_is : page ≡ c.args.table.now.root = same_damaged page c.args.table.now.root (sym e) in
    let full = full_root c.args.table.now.levels (g.S.Pages.map c.args.stage.now) c.args.table.now.root (key c.copied_dated.result) c.root_place-place.result c.in_ok-enter_below.field-0 c.in-Some.second (c.root_place-place.ensures ∙ ap root_place c.key.ensures) c.in-Some.is (c.in_ok-enter_below.ensures.full tells) in
    subst (λ (d : Dated). IsDamagedForEnter (g.S.Pages.map c.args.stage.now) (g.S.Pages.free_in_order c.args.stage.now) c.args.table.now d page) c.copied_dated.ensures.value
    (elim c.then-table-ge16.branch [
      | then-table-ge16-via-then-table-ge16 w ↦
          let sixteen : c.args.table.now.levels ≡ 16 = omega (arith, w.if-table-ge16.true, c.in_ok-enter_below.ensures.level) in
          inr (inr (inl (root_is, sixteen, subst (λ (n : ℕ). IsFullBelow n (g.S.Pages.map c.args.stage.now) c.args.table.now.root (key c.copied_dated.result)) sixteen full)))
      | then-table-ge16-via-else-table-ge16+then-table-lt3 w ↦
          let there = full_there c.args.table.now.levels (g.S.Pages.map c.args.stage.now) c.args.table.now.root (key c.copied_dated.result) full in
          let three = g.met.S.Stage.from_three c.args.stage.now c.args.table.now.root there.0 tells there.1 in
          absurd (omega (arith, three, w.if-table-lt3.true))
    ])

pub returns-then-table-ge16-clause-sound : goal.returns-then-table-ge16-clause-sound
returns-then-table-ge16-clause-sound g c = λ lives page tells s new few ordered e.
    let low = table_low ByLives (g.S.Pages.map c.args.stage.now) c.args.table.now lives s few in
    elim c.then-table-ge16.branch [
      | then-table-ge16-via-then-table-ge16 w ↦ omega (arith, low, w.if-table-ge16.true)
      | then-table-ge16-via-else-table-ge16+then-table-lt3 w ↦
          let there = root_there c.args.table.now.levels (g.S.Pages.map c.args.stage.now) c.args.table.now.root (omega (arith, c.if-table-eq0.false)) s.nodes in
          let three = g.met.S.Stage.from_three c.args.stage.now c.args.table.now.root there.0 tells there.1 in
          omega (arith, three, w.if-table-lt3.true)
    ]

pub returns-in-None-clause-stands : goal.returns-in-None-clause-stands
returns-in-None-clause-stands g c = λ tells lives s.
    let some : 1 ≤ c.args.table.now.levels = omega (arith, c.if-table-eq0.false) in
    let r = entered_root c.args.table.now.levels (g.S.Pages.map c.args.stage.now) (g.S.Pages.map c.enter_below.new.stage) c.args.table.now.root c.copied_dated.result c.root_place-place.result (key c.copied_dated.result) c.in_ok-enter_below.field-0 some (c.root_place-place.ensures ∙ ap root_place c.key.ensures) s.nodes s.once (c.in_ok-enter_below.ensures.entered tells) in
    let grown = grown_none c.args.table.now c.grown-in-None.result (g.S.Pages.map c.args.stage.now) (g.S.Pages.map c.enter_below.new.stage) c.copied_dated.result c.in_ok-enter_below.field-0 c.in-None.is some c.grown-in-None.ensures.root c.grown-in-None.ensures.levels r in
    subst (λ (d : Dated). TableStands ByLives (g.S.Pages.map c.enter_below.new.stage) c.grown-in-None.result (with_object d lives)) c.copied_dated.ensures.value
    (grown_stands (g.S.Pages.map c.args.stage.now) (g.S.Pages.map c.enter_below.new.stage) c.args.table.now c.grown-in-None.result lives c.copied_dated.result s c.grown-in-None.ensures.count c.grown-in-None.ensures.changes c.grown-in-None.ensures.last grown)

pub returns-in-None-clause-change : goal.returns-in-None-clause-change
returns-in-None-clause-change g c = λ tells lives s.
    let some : 1 ≤ c.args.table.now.levels = omega (arith, c.if-table-eq0.false) in
    let r = entered_root c.args.table.now.levels (g.S.Pages.map c.args.stage.now) (g.S.Pages.map c.enter_below.new.stage) c.args.table.now.root c.copied_dated.result c.root_place-place.result (key c.copied_dated.result) c.in_ok-enter_below.field-0 some (c.root_place-place.ensures ∙ ap root_place c.key.ensures) s.nodes s.once (c.in_ok-enter_below.ensures.entered tells) in
    (grown_none c.args.table.now c.grown-in-None.result (g.S.Pages.map c.args.stage.now) (g.S.Pages.map c.enter_below.new.stage) c.copied_dated.result c.in_ok-enter_below.field-0 c.in-None.is some c.grown-in-None.ensures.root c.grown-in-None.ensures.levels r).change

grown_above : (g : Given.Over) (c : goal.After-grown-in-Some g) → IsTrue (g.S.Pages.tells c.args.stage.now) → (lives : List Dated) → TableStands ByLives (g.S.Pages.map c.args.stage.now) c.args.table.now lives
    → Grown c.args.table.now.levels c.grown-in-Some.result.levels (g.S.Pages.map c.args.stage.now) (g.S.Pages.map c.new_root.new.stage) c.args.table.now.root c.grown-in-Some.result.root c.copied_dated.result
grown_above g c tells lives s =
    let some : 1 ≤ c.args.table.now.levels = omega (arith, c.if-table-eq0.false) in
    let r = entered_root c.args.table.now.levels (g.S.Pages.map c.args.stage.now) (g.S.Pages.map c.enter_below.new.stage) c.args.table.now.root c.copied_dated.result c.root_place-place.result (key c.copied_dated.result) c.in_ok-enter_below.field-0 some (c.root_place-place.ensures ∙ ap root_place c.key.ensures) s.nodes s.once (c.in_ok-enter_below.ensures.entered tells) in
    let there = root_there c.args.table.now.levels (g.S.Pages.map c.args.stage.now) c.args.table.now.root some s.nodes in
    let fits : c.args.table.now.root < 2 ^ 64 =
    omega (arith, g.met.S.Stage.below_allotted c.args.stage.now c.args.table.now.root _ tells there.1, g.met.S.Stage.within_limit c.args.stage.now, g.met.S.Stage.limit_fits c.args.stage.now) in
    let second = second_of_root (key c.copied_dated.result) c.root_place-place.result c.in_ok-enter_below.field-0 c.in-Some.second (c.root_place-place.ensures ∙ ap root_place c.key.ensures) c.in-Some.is c.in_ok-enter_below.ensures.second in
    grown_some c.args.table.now c.grown-in-Some.result (g.S.Pages.map c.args.stage.now) (g.S.Pages.map c.enter_below.new.stage) (g.S.Pages.map c.new_root.new.stage) c.in_ok-root-in-Some.root c.copied_dated.result c.in_ok-enter_below.field-0 c.in-Some.second c.in-Some.is some c.if-table-ge16.false
    c.grown-in-Some.ensures.root c.grown-in-Some.ensures.levels c.if-table-lt3.false fits second r (c.in_ok-root-in-Some.ensures.made (c.enter_below.ensures.grows.went_on.tells ∙ tells))

pub returns-in_ok-root-in-Some-clause-stands : goal.returns-in_ok-root-in-Some-clause-stands
returns-in_ok-root-in-Some-clause-stands g c = λ tells lives s.
    subst (λ (d : Dated). TableStands ByLives (g.S.Pages.map c.new_root.new.stage) c.grown-in-Some.result (with_object d lives)) c.copied_dated.ensures.value
    (grown_stands (g.S.Pages.map c.args.stage.now) (g.S.Pages.map c.new_root.new.stage) c.args.table.now c.grown-in-Some.result lives c.copied_dated.result s c.grown-in-Some.ensures.count c.grown-in-Some.ensures.changes c.grown-in-Some.ensures.last (grown_above g c tells lives s))

pub returns-in_ok-root-in-Some-clause-change : goal.returns-in_ok-root-in-Some-clause-change
returns-in_ok-root-in-Some-clause-change g c = λ tells lives s. (grown_above g c tells lives s).change
