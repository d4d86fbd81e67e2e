use Rattle.std.proofs.Common.{◌≤◌, ◌^◌, nat_abs, take}
use Rattle.std.specs.List.{All}
use Rattle.image_check.proofs.judging.weights_are_small.Given as goal

abbrev pub invariant-loop-event : goal.invariant-loop-event
invariant-loop-event l = All (λ e. nat_abs e.object.weight ≤ 2 ^ 63) (take l.event-index l.events)
