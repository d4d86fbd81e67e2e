use Rattle.std.proofs.Common.{◌≡◌, replicate, length}
use Rattle.bw_types.specs.Empty.{empty_tree}
use Rattle.corner_forest.proofs.forest.Forest.new.Given as goal

abbrev pub invariant-loop : goal.invariant-loop
invariant-loop l = record {
  items : l.roots.items ≡ replicate l.counter empty_tree;
  len : length l.roots.items ≡ l.counter;
}
