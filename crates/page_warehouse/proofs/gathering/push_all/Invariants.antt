use Rattle.std.proofs.Common.{◌≡◌, ◌++◌, take}
use Rattle.page_warehouse.specs.Events.{events_of_lives}
use Rattle.page_warehouse.proofs.gathering.push_all.Given as goal

abbrev pub invariant-loop-dated : goal.invariant-loop-dated
invariant-loop-dated l = l.events.items ≡ l.fn.events.items ++ events_of_lives (take l.dated-index l.lives)
