use Rattle.std.proofs.Common.{◌≡◌, ◌<◌, length, take}
use Rattle.object_table.specs.Lives.{lives_from}
use Rattle.object_table.specs.Nodes.{objects_in}
use Rattle.object_table.proofs.walking.take_from.Given as goal

abbrev pub invariant-loop-index : goal.invariant-loop-index
invariant-loop-index g l = record {
  so_far : l.found.items ≡ lives_from l.sought (take l.index (objects_in l.node));
  room : length l.found.items < g.row.N;
}
