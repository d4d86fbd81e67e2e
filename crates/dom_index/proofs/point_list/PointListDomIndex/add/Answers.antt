use Rattle.std.proofs.Common.{Err, Ok, refl, ap, inl, inr, sym, subst, ℕ}
use Rattle.std.proofs.lemmas.Result.{err_from_is_err_and}
use Rattle.ports.specs.Calls.{Changes}
use Rattle.ports.specs.declared.page.StageFault.TheVariants.{Damaged}
use Rattle.dom_index.proofs.Exits.{exit_error}
use Rattle.dom_index.proofs.FirstPages.{not_missing}
use Rattle.dom_index.proofs.Outcomes.{changes_to_end, changes_to_refusal}
use Rattle.dom_index.proofs.Standing.{growth_cases, has_first, list_grows, no_hole}
use Rattle.dom_index.proofs.point_list.PointListDomIndex.add.Goals as goal

pub returns-in_err-root-clause-damaged : goal.returns-in_err-root-clause-damaged
returns-in_err-root-clause-damaged g c = λ page e tells.
    let p = err_from_is_err_and c.from_residual.result c.from_residual.ensures.1 in
    let same = exit_error c.from_residual.result c.in_err-root.field-0.0 (Damaged page) p e in
    elim (c.in_err-root.ensures.damaged page (ap Err same) tells) [
      | inl why ↦ inl (why.0, inl why.2)
      | inr order ↦ inr order
    ]

pub returns-in_err-root-clause-sound : goal.returns-in_err-root-clause-sound
returns-in_err-root-clause-sound g c = λ points page tells stands new low order e.
    let p = err_from_is_err_and c.from_residual.result c.from_residual.ensures.1 in
    let same = exit_error c.from_residual.result c.in_err-root.field-0.0 (Damaged page) p e in
    elim (c.in_err-root.ensures.damaged page (ap Err same) tells) [
      | inl why ↦ no_hole (g.S.Pages.map c.args.stage.now) c.args.tree.now.count c.args.tree.now.root stands.chain why.1 why.2
      | inr none ↦ none order
    ]

pub returns-in_err-root-clause-growth : goal.returns-in_err-root-clause-growth
returns-in_err-root-clause-growth g c = λ tells points stands new low.
    let p = err_from_is_err_and c.from_residual.result c.from_residual.ensures.1 in
    let tree = c.args.tree.now in
    elim (growth_cases c.args.dims tree.levels tree.count) [
      | inl none ↦
          let first = has_first (g.S.Pages.map c.args.stage.now) c.args.dims tree points stands none.0 none.1 in
          let grows = c.in_err-root.ensures.room tells first.0 first.1 first.2 in
          subst (λ (most : ℕ). Changes g.S.Pages most c.args.stage.now c.put_first.new.stage c.from_residual.result) (sym none.2)
          (changes_to_refusal g.S.Pages 0 c.args.stage.now c.put_first.new.stage _ c.from_residual.result c.in_err-root.field-0.0 p refl grows)
      | inr one ↦
          subst (λ (most : ℕ). Changes g.S.Pages most c.args.stage.now c.put_first.new.stage c.from_residual.result) (sym one)
          (changes_to_refusal g.S.Pages 1 c.args.stage.now c.put_first.new.stage _ c.from_residual.result c.in_err-root.field-0.0 p refl c.in_err-root.ensures.grows)
    ]

pub returns-clause-stands : goal.returns-clause-stands
returns-clause-stands g c = λ tells points stands new.
    (list_grows (g.S.Pages.map c.args.stage.now) (g.S.Pages.map c.put_first.new.stage) c.args.dims c.args.tree.now c.in_ok-root.root points c.args.point.now stands new c.requires.version
    c.in_ok-root.ensures.typed.0 c.in_ok-root.ensures.typed.1 (c.in_ok-root.ensures.put tells)).0

pub returns-clause-change : goal.returns-clause-change
returns-clause-change g c = λ tells points stands new.
    (list_grows (g.S.Pages.map c.args.stage.now) (g.S.Pages.map c.put_first.new.stage) c.args.dims c.args.tree.now c.in_ok-root.root points c.args.point.now stands new c.requires.version
    c.in_ok-root.ensures.typed.0 c.in_ok-root.ensures.typed.1 (c.in_ok-root.ensures.put tells)).1

pub returns-clause-growth : goal.returns-clause-growth
returns-clause-growth g c = λ tells points stands new low.
    let tree = c.args.tree.now in
    elim (growth_cases c.args.dims tree.levels tree.count) [
      | inl none ↦
          let first = has_first (g.S.Pages.map c.args.stage.now) c.args.dims tree points stands none.0 none.1 in
          subst (λ (most : ℕ). Changes g.S.Pages most c.args.stage.now c.put_first.new.stage (Ok tt)) (sym none.2)
          (changes_to_end g.S.Pages 0 c.args.stage.now c.put_first.new.stage _ (c.in_ok-root.ensures.room tells first.0 first.1 first.2))
      | inr one ↦
          subst (λ (most : ℕ). Changes g.S.Pages most c.args.stage.now c.put_first.new.stage (Ok tt)) (sym one)
          (changes_to_end g.S.Pages 1 c.args.stage.now c.put_first.new.stage _ c.in_ok-root.ensures.grows)
    ]

pub returns-clause-becomes : goal.returns-clause-becomes
returns-clause-becomes g c = λ tells. record {
  count = refl;
  root = λ some not_changed. elim (c.in_ok-root.ensures.put tells) [
    | inl same ↦ same.0
    | inr new ↦ absurd (not_missing (g.S.Pages.map c.args.stage.now c.in_ok-root.root) new.0 some)
  ];
}
