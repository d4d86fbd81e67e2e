use Rattle.std.proofs.Common.{length, subst, arith, ◌≤◌}
use Rattle.std.proofs.lemmas.List.Elements.{All-more}
use Rattle.std.proofs.lemmas.List.{take_all}
use Rattle.std.specs.List.{All}
use Rattle.span_planes.specs.Filled.{CanFill}
use Rattle.span_planes.proofs.writing.can_fill_all.Goals as goal

pub loop-event-preserved : goal.loop-event-preserved
loop-event-preserved c =
    All-more (CanFill c.args.params.now) c.args.events.now c.loop-event.event-index _ c.loop-event-test.true c.loop-event.invariant
    (c.can_fill.ensures.yes c.if-not-can_fill.false)

pub returns-clause-yes : goal.returns-clause-yes
returns-clause-yes c = λ _.
    let least : length c.args.events.now ≤ c.loop-event.event-index = let end = c.loop-event.auto.event-index-end in let test = c.loop-event-test.false in omega (arith, end, test) in
    subst (λ es. All (CanFill c.args.params.now) es) (take_all c.loop-event.event-index c.args.events.now least) c.loop-event.invariant
