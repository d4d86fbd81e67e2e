-- One event after the other.
use Rattle.std.proofs.Common.{List, subst}
use Rattle.std.proofs.lemmas.List.{take_all}
use Rattle.std.proofs.lemmas.List.Elements.{All-more}
use Rattle.std.specs.List.{All}
use Rattle.page_warehouse.specs.declared.event.Event.{Event}
use Rattle.history_text.specs.Rebuilt.{HasSizes}
use Rattle.history_text.proofs.sizes.events_have_sizes.Goals as goal

pub loop-event-preserved : goal.loop-event-preserved
loop-event-preserved c =
    All-more (λ (e : Event). HasSizes e.object) c.args.events.now c.loop-event.event-index _ c.loop-event-test.true c.loop-event.invariant c.object_has_sizes.ensures

pub returns : goal.returns
returns c =
    subst (λ (es : List Event). All (λ (e : Event). HasSizes e.object) es) (take_all c.loop-event.event-index c.args.events.now c.loop-event-test.false) c.loop-event.invariant
