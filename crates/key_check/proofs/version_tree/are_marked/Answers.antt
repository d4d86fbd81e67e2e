use Rattle.std.proofs.Common.{ℕ, ◌≡◌, ◌==◌, ◌||◌, List, IsTrue, refl, sym, ◌∙◌, ap, subst, get_or}
use Rattle.std.specs.List.{list_any}
use Rattle.std.proofs.lemmas.Bool.{false≢true}
use Rattle.std.proofs.lemmas.List.{take_all}
use Rattle.std.proofs.lemmas.List.Elements.{All-more}
use Rattle.sb_tree.specs.Stands.{is_marked}
use Rattle.key_check.specs.declared.step.Step.{Step}
use Rattle.key_check.proofs.Deciding.{AreMarked}
use Rattle.key_check.proofs.Numbering.{marked_is}
use Rattle.key_check.proofs.version_tree.are_marked.Goals as goal

abbrev none : Step
none = record { version = 0; value = 0 }

pub returns-then-not-is_mark : goal.returns-then-not-is_mark
returns-then-not-is_mark c =
    let v : ℕ = (get_or c.args.steps.now c.loop-step.step-index none).version in
    let same : c.is_mark.result ≡ is_marked c.args.points.now v =
    c.is_mark.ensures ∙ ap (λ (vs : List ℕ). v == 0 || list_any (λ x. x == v) vs) c.as_slice.ensures.value ∙ marked_is c.args.points.now c.in_ok-versions.versions.items v c.in_ok-versions.ensures.same in
    (λ never. absurd (false≢true never), λ all. sym c.if-not-is_mark.true ∙ same ∙ all c.loop-step.step-index none c.loop-step-test.true)

pub loop-step-preserved : goal.loop-step-preserved
loop-step-preserved c =
    let v : ℕ = (get_or c.args.steps.now c.loop-step.step-index none).version in
    let same : c.is_mark.result ≡ is_marked c.args.points.now v =
    c.is_mark.ensures ∙ ap (λ (vs : List ℕ). v == 0 || list_any (λ x. x == v) vs) c.as_slice.ensures.value ∙ marked_is c.args.points.now c.in_ok-versions.versions.items v c.in_ok-versions.ensures.same in
    All-more (λ (s : Step). IsTrue (is_marked c.args.points.now s.version)) c.args.steps.now c.loop-step.step-index none c.loop-step-test.true c.loop-step.invariant (sym same ∙ c.if-not-is_mark.false)

pub returns : goal.returns
returns c = (λ _. subst (AreMarked c.args.points.now) (take_all c.loop-step.step-index c.args.steps.now c.loop-step-test.false) c.loop-step.invariant, λ _. refl)
