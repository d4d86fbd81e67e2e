use Rattle.std.proofs.Common.{◌^◌, ◌≡◌, List, Ok, Some, Result, Option, ap, sym, ◌∙◌, subst}
use Rattle.std.proofs.lemmas.Bool.{false≢true}
use Rattle.page_layout.specs.Footprint.{NamesNoneTwice}
use Rattle.ports.specs.Pages.{PageMap}
use Rattle.key_check.specs.Changes.{AreMade, StandsForChanges}
use Rattle.key_check.specs.Steps.{AscendFrom}
use Rattle.key_check.specs.Walks.{IsWalk}
use Rattle.page_checks.specs.declared.fault.CheckFault.{CheckFault}
use Rattle.key_check.specs.declared.step.Step.{Step}
use Rattle.key_check.specs.declared.version_tree.Walk.{Walk}
use Rattle.key_check.proofs.Changing.{made_of, numbers_for, stands_for}
use Rattle.key_check.proofs.Valuing.{tree_ascends}
use Rattle.key_check.proofs.changes.walk_changes.Goals as goal

same_walk : (a b : Walk) → ◌≡◌ {A = Result (Option Walk) CheckFault} (Ok (Some a)) (Ok (Some b)) → a ≡ b
same_walk a b e = cc

pub returns-then-not-has_changes_of-clause-none : goal.returns-then-not-has_changes_of-clause-none
returns-then-not-has_changes_of-clause-none g c = λ _ tells s. false≢true (sym c.if-not-has_changes_of.true ∙ c.has_changes_of.ensures.1 (numbers_for _ _ _ s))

pub returns-then-are_made-clause-some : goal.returns-then-are_made-clause-some
returns-then-are_made-clause-some g c = λ walk e tells.
    let m : PageMap = g.P.Pages.map c.args.pages.now in
    let w : IsWalk m c.args.tree.now c.in-Some.walk = c.in_ok-walk.ensures.some c.in-Some.walk (ap Ok c.in-Some.is) tells in
    let ups : AscendFrom 0 c.in-Some.walk.steps.items (2 ^ 32) = subst (λ (ss : List Step). AscendFrom 0 ss (2 ^ 32)) (sym w.steps_are) (tree_ascends c.args.tree.now.levels m c.args.tree.now.root w.stands) in
    let made : AreMade c.in-Some.walk.steps.items c.args.tree.now.count c.args.points.now = subst (λ (ss : List Step). AreMade ss c.args.tree.now.count c.args.points.now) c.as_slice.ensures.value
    (c.are_made.ensures.yes (2 ^ 32) c.if-are_made.true (subst (λ (ss : List Step). AscendFrom 0 ss (2 ^ 32)) (sym c.as_slice.ensures.value) ups)) in
    let same : c.in-Some.walk ≡ walk = same_walk c.in-Some.walk walk e in
    subst (λ (x : Walk). IsWalk m c.args.tree.now x × (NamesNoneTwice x.named.items → StandsForChanges m c.args.tree.now c.args.points.now)) same
    (w, λ once. stands_for m c.args.tree.now c.args.points.now c.in-Some.walk (c.has_changes_of.ensures.0 c.if-not-has_changes_of.false) w made once)

pub returns-else-are_made-clause-none : goal.returns-else-are_made-clause-none
returns-else-are_made-clause-none g c = λ _ tells s.
    let m : PageMap = g.P.Pages.map c.args.pages.now in
    let w : IsWalk m c.args.tree.now c.in-Some.walk = c.in_ok-walk.ensures.some c.in-Some.walk (ap Ok c.in-Some.is) tells in
    c.are_made.ensures.no c.if-are_made.false (subst (λ (ss : List Step). AreMade ss c.args.tree.now.count c.args.points.now) (sym c.as_slice.ensures.value)
    (made_of m c.args.tree.now c.args.points.now c.in-Some.walk s w))
