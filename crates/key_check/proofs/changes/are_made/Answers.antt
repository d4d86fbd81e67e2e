use Rattle.std.proofs.Common.{◌≡◌, ◌-◌, ◌≤◌, List, length, get_or, ap, sym, ◌∙◌, subst}
use Rattle.std.proofs.lemmas.Option.{get_or_from_slice_get}
use Rattle.key_check.specs.Changes.{needed}
use Rattle.key_check.specs.declared.step.Step.{Step}
use Rattle.key_check.proofs.Changing.{come_all, needed_ascend}
use Rattle.key_check.proofs.changes.are_made.Goals as goal

pub returns-in-Some-clause-yes : goal.returns-in-Some-clause-yes
returns-in-Some-clause-yes c = λ high e a.
    let same : c.needed_of-needed.result.now ≡ needed c.args.steps.now = c.needed_of-needed.ensures in
    let last : (d : Step) → c.in-Some.step.now ≡ get_or (needed c.args.steps.now) (length (needed c.args.steps.now) - 1) d = λ d.
    sym (get_or_from_slice_get c.needed_of-needed.result.now (length c.needed_of-needed.result.now - 1) c.in-Some.step.now d (sym c.in-Some.ensures.value))
    ∙ ap (λ (ss : List Step). get_or ss (length ss - 1) d) same in
    record {
      few = subst (λ (ss : List Step). length ss ≤ c.args.count) same c.if-needed-count.false;
      come = come_all c.args.points.now (needed c.args.steps.now) 0 high (needed_ascend c.args.steps.now high a) c.in-Some.step.now last (sym c.comes.ensures ∙ e);
    }
