use Rattle.std.proofs.Common.{◌≡◌, ◌≤◌, length, replicate}
use Rattle.bw_types.specs.Empty.{empty_tree}
use Rattle.span_planes.proofs.creating.first_meta.Given as goal

abbrev pub invariant-loop : goal.invariant-loop
invariant-loop l = record {
  few : l.end ≤ 16;
  items : l.roots.items ≡ replicate l.counter empty_tree;
  len : length l.roots.items ≡ l.counter;
}
