use Rattle.std.proofs.Common.{◌≡◌, ◌-◌, ◌*◌, ◌≤◌, ◌++◌, length, All}
use Rattle.page_layout.specs.Entries.{entries_at}
use Rattle.page_layout.proofs.entry.get_all.Given as goal

abbrev pub invariant-loop : goal.invariant-loop
invariant-loop g l = record {
  len : length l.entries.items ≡ l.counter;
  typed : All g.T.Entry.is_typed l.entries.items;
  room : (l.count - l.counter) * g.T.Entry.SIZE ≤ length l.rest;
  so_far : l.entries.items ++ entries_at g.T.Entry.value_at g.T.Entry.SIZE (l.count - l.counter) l.rest ≡ entries_at g.T.Entry.value_at g.T.Entry.SIZE l.count l.bytes;
}
