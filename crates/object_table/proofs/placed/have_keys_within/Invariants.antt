use Rattle.std.proofs.Common.{◌≤◌, ◌<◌, take}
use Rattle.std.specs.List.{All}
use Rattle.object_table.specs.Keys.{key}
use Rattle.object_table.specs.Nodes.{objects_in}
use Rattle.object_table.proofs.placed.have_keys_within.Given as goal

abbrev pub invariant-loop-index : goal.invariant-loop-index
invariant-loop-index l = record {
  from : All (λ d. l.place.low ≤ key d) (take l.index (objects_in l.node));
  ends : All (λ d. key d < l.place.high) (take l.index (objects_in l.node));
}
