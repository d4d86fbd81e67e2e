use Rattle.std.proofs.Common.{◌+◌, List, Ok, map, take, drop, sym, ◌∙◌, ap, subst, arith}
use Rattle.bw_types.specs.History.{History}
use Rattle.bw_types.specs.Lawful.{IsLawful}
use Rattle.page_warehouse.specs.Events.{change_in}
use Rattle.page_warehouse.specs.declared.event.Event.{Event}
use Rattle.image_check.proofs.Below.{whole_rest}
use Rattle.image_check.proofs.Onward.{IsCutAt, cut_next, next_lawful}
use Rattle.image_check.proofs.lawful.is_lawful.Goals as goal

pub returns-then-not-branch-clause-no : goal.returns-then-not-branch-clause-no
returns-then-not-branch-clause-no c = λ e h are last lawful.
    let n = cut_next h c.loop-version.house.history c.loop-version.version c.count_of-count.result c.loop-version.later.now (omega (arith, last, c.loop-version-test.true)) c.count_of-count.ensures.count (c.loop-version.invariant.cut h are last) in
    c.put_next.ensures.no (c.in_ok-put_next.was ∙ ap Ok c.if-not-branch.true) (next_lawful c.args.params.now h c.loop-version.house.history (map change_in (take c.count_of-count.result c.loop-version.later.now)) n.later n.whole lawful)

pub loop-version-preserved : goal.loop-version-preserved
loop-version-preserved c =
    let put = c.put_next.ensures.put (c.in_ok-put_next.was ∙ ap Ok c.if-not-branch.false) in
    record {
      params = c.put_next.ensures.params ∙ c.loop-version.invariant.params;
      lawful = subst (λ (k : History). IsLawful c.args.params.now k) (sym put)
          (c.histories_grow_by_lawful_batches.ensures.grows c.args.params.now c.loop-version.house.history (map change_in (take c.count_of-count.result c.loop-version.later.now)) c.loop-version.invariant.lawful
          (c.put_next.ensures.yes (c.in_ok-put_next.was ∙ ap Ok c.if-not-branch.false)));
      cut = λ h are last.
          let n = cut_next h c.loop-version.house.history c.loop-version.version c.count_of-count.result c.loop-version.later.now (omega (arith, last, c.loop-version-test.true)) c.count_of-count.ensures.count (c.loop-version.invariant.cut h are last) in
          subst (λ (es : List Event). IsCutAt h c.put_next.new.house.history (c.loop-version.version + 1) es) (sym (whole_rest c.loop-version.later.now c.count_of-count.result))
          (subst (λ (k : History). IsCutAt h k (c.loop-version.version + 1) (drop c.count_of-count.result c.loop-version.later.now)) (sym put) n.next);
    }
