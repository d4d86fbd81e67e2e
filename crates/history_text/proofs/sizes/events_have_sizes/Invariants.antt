use Rattle.std.proofs.Common.{take}
use Rattle.std.specs.List.{All}
use Rattle.page_warehouse.specs.declared.event.Event.{Event}
use Rattle.history_text.specs.Rebuilt.{HasSizes}
use Rattle.history_text.proofs.sizes.events_have_sizes.Given as goal

abbrev pub invariant-loop-event : goal.invariant-loop-event
invariant-loop-event l = All (λ (e : Event). HasSizes e.object) (take l.event-index l.events)
