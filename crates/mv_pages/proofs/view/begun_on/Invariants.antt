use Rattle.std.proofs.Common.{◌≡◌, ◌%◌, ◌^◌, ◌≤◌, take}
use Rattle.std.specs.List.{All}
use Rattle.mv_pages.specs.Alive.{value_of}
use Rattle.mv_pages.proofs.view.begun_on.Given as goal

abbrev pub invariant-loop-index : goal.invariant-loop-index
invariant-loop-index l = record {
  below : All (λ e. e.low ≤ l.key) (take l.index l.view.entries.items);
  value : l.value ≡ value_of (take l.index l.view.entries.items) l.key l.version % 2 ^ 128;
}
