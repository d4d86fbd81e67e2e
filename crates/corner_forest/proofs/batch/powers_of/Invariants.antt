use Rattle.std.proofs.Common.{◌≡◌, length, take}
use Rattle.corner_forest.specs.BatchPowers.{ArePowersOfFirst, HaveSmallWeights}
use Rattle.corner_forest.proofs.batch.powers_of.Given as goal

abbrev pub invariant-loop-entry : goal.invariant-loop-entry
invariant-loop-entry l = record {
  len : length l.powers.items ≡ l.entry-index;
  powers : ArePowersOfFirst l.params l.batch l.entry-index l.powers.items;
  small : HaveSmallWeights (take l.entry-index l.batch);
}
