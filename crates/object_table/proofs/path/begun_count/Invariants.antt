use Rattle.std.proofs.Common.{◌≤◌, ◌<◌, ◌-◌, length, take, drop}
use Rattle.std.specs.List.{All}
use Rattle.object_table.specs.Keys.{low_key}
use Rattle.object_table.specs.Nodes.{entries_in}
use Rattle.object_table.proofs.path.begun_count.Given as goal

abbrev pub invariant-loop-begun : goal.invariant-loop-begun
invariant-loop-begun l = record {
  ordered : l.begun ≤ l.end;
  within : l.end ≤ length (entries_in l.node);
  begun : All (λ e. low_key e ≤ l.sought) (take l.begun (entries_in l.node));
  later : All (λ e. l.sought < low_key e) (drop l.end (entries_in l.node));
}

abbrev pub decreases-loop-begun : goal.decreases-loop-begun
decreases-loop-begun l = l.end - l.begun
