use Rattle.std.proofs.Common.{◌≡◌, ◌*◌, ◌≤◌, length, take}
use Rattle.history_laws.specs.Entries.{entries_of}
use Rattle.image_check.proofs.rules.entry_count.Given as goal

abbrev pub invariant-loop-life : goal.invariant-loop-life
invariant-loop-life l = record {
  count : l.count ≡ length (entries_of (take l.life-index l.lives));
  at_most : l.count ≤ 2 * l.life-index;
}
