use Rattle.std.proofs.Common.{rules, ◌≡◌, ◌^◌, ℕ, List, Ok, get_or, ap, sym, ◌∙◌, subst}
use Rattle.std.specs.Global.{Vec}
use Rattle.std.proofs.lemmas.List.{drop_all}
use Rattle.ports.specs.Pages.{PageMap}
use Rattle.key_check.specs.KeyTrees.{RootLasts, first_step, stretch_total}
use Rattle.key_check.specs.Levels.{Pushes}
use Rattle.key_check.specs.declared.leveled.Leveled.{Leveled}
use Rattle.key_check.specs.declared.step.Step.{Step}
use Rattle.key_check.proofs.RootPieces.{RootsPushed, first_roots, more_roots}
use Rattle.key_check.proofs.RootSteps.{begins_first, lasts_of}
use Rattle.key_check.proofs.roots.roots_of.Goals as goal

abbrev none : Step
none = record { version = 0; value = 0 }

pub loop-place-init : goal.loop-place-init
loop-place-init g c = record {
  whole = search rules;
  pushes = λ tells a nodes. subst (RootsPushed (g.P.Pages.map c.args.pages.now) nodes c.args.count c.args.steps.now (first_step c.args.steps.now (2 ^ 32))) (sym c.new-rooted.ensures.items)
      (first_roots (g.P.Pages.map c.args.pages.now) nodes c.args.count c.args.steps.now a);
  read = search rules;
}

pub returns-then-not-branch-clause-refused : goal.returns-then-not-branch-clause-refused
returns-then-not-branch-clause-refused g c = λ _ tells a nodes keeps.
    let m : PageMap = g.P.Pages.map c.args.pages.now in
    let s : Step = get_or c.args.steps.now c.loop-place.place none in
    let read = c.loop-place.invariant.read in
    c.in_ok-push_root.ensures.refused (ap Ok c.if-not-branch.true) (read.tells ∙ tells)
    (begins_first c.args.steps.now c.loop-place.place none c.step_from-to.result a c.loop-place-test.true c.step_from-to.ensures.value) nodes
    (subst (λ (x : PageMap). RootLasts x nodes c.args.count s.value s.version c.step_from-to.result) (sym read.map)
    (lasts_of m nodes c.args.count c.args.steps.now c.loop-place.place none c.step_from-to.result a c.loop-place-test.true c.step_from-to.ensures.value (2 ^ 32) c.step_from-to.ensures.few keeps))

pub loop-place-preserved : goal.loop-place-preserved
loop-place-preserved g c =
    let m : PageMap = g.P.Pages.map c.args.pages.now in
    let s : Step = get_or c.args.steps.now c.loop-place.place none in
    let read = c.loop-place.invariant.read in
    record {
      whole = c.in_ok-push_root.ensures.whole (ap Ok c.if-not-branch.false) c.loop-place.invariant.whole;
      pushes = λ tells a nodes. more_roots m nodes c.args.count c.args.steps.now c.loop-place.place none c.step_from-to.result c.loop-place.rooted.items c.push_root.new.rooted.items a
          c.loop-place-test.true c.step_from-to.ensures.value (c.loop-place.invariant.pushes tells a nodes)
          (subst (λ (x : PageMap). Pushes (RootLasts x nodes c.args.count s.value s.version c.step_from-to.result) (stretch_total x s.value s.version c.step_from-to.result) x nodes c.loop-place.rooted.items c.push_root.new.rooted.items) read.map
          (c.in_ok-push_root.ensures.pushes (ap Ok c.if-not-branch.false) (read.tells ∙ tells) nodes));
      read = search rules;
    }

pub returns-clause-pushes : goal.returns-clause-pushes
returns-clause-pushes g c = λ rooted is tells a nodes.
    let m : PageMap = g.P.Pages.map c.args.pages.now in
    let e : c.loop-place.rooted ≡ rooted = cc in
    subst (λ (v : Vec Leveled). RootsPushed m nodes c.args.count c.args.steps.now (2 ^ 32) v.items) e
    (subst (λ (n : ℕ). RootsPushed m nodes c.args.count c.args.steps.now n c.loop-place.rooted.items)
    (ap (λ (ss : List Step). first_step ss (2 ^ 32)) (drop_all c.loop-place.place c.args.steps.now c.loop-place-test.false)) (c.loop-place.invariant.pushes tells a nodes))
