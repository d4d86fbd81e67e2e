use Rattle.std.proofs.Common.{◌≡◌, ◌^◌, ◌<◌, map, take}
use Rattle.bw_types.specs.Refusals.{total_mass}
use Rattle.page_warehouse.specs.Events.{change_in}
use Rattle.image_check.proofs.numbers.mass_in.Given as goal

abbrev pub invariant-loop-event : goal.invariant-loop-event
invariant-loop-event l = record {
  total : l.total ≡ total_mass l.params (map change_in (take l.event-index l.events));
  low : l.total < 2 ^ 126;
}
