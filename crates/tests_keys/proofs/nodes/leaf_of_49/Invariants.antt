use Rattle.std.proofs.Common.{◌≡◌, ◌+◌, ◌≤◌, length}
use Rattle.mv_pages.specs.Alive.{AreEntriesOf, IsChangeable}
use Rattle.tests_keys.proofs.nodes.leaf_of_49.Given as goal

abbrev pub invariant-loop-i : goal.invariant-loop-i
invariant-loop-i l = record {
  leaf : l.leaf.level ≡ 1;
  entries : AreEntriesOf l.leaf.level l.leaf.entries.items;
  changeable : IsChangeable 1 l.leaf.entries.items;
  room : length l.leaf.entries.items ≤ l.i + 2;
}
