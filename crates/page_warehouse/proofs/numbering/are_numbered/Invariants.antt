use Rattle.std.proofs.Common.{◌↔◌, map, drop}
use Rattle.page_warehouse.specs.Events.{numbered_in}
use Rattle.page_warehouse.specs.Numbering.{AreNumbered, GoOn}
use Rattle.page_warehouse.proofs.numbering.are_numbered.Given as goal

abbrev pub invariant-loop-index : goal.invariant-loop-index
invariant-loop-index l = AreNumbered l.last l.events ↔ GoOn l.last l.index l.version (map numbered_in (drop l.index l.events))
