use Rattle.std.proofs.Common.{◌≡◌, map, take}
use Rattle.std.specs.List.{flat_map}
use Rattle.history_laws.specs.Told.{named_by}
use Rattle.page_warehouse.specs.Events.{numbered_in}
use Rattle.image_check.proofs.telling.told_events.Given as goal

abbrev pub invariant-loop-dated : goal.invariant-loop-dated
invariant-loop-dated l = map numbered_in l.events.items ≡ flat_map named_by (take l.dated-index l.lives)
