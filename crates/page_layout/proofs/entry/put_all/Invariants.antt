use Rattle.std.proofs.Common.{◌≡◌, ◌+◌, ◌*◌, ◌++◌, take}
use Rattle.std.specs.List.{flat_map}
use Rattle.page_layout.proofs.entry.put_all.Given as goal

abbrev pub invariant-loop-entry : goal.invariant-loop-entry
invariant-loop-entry g l = record {
  place : l.next ≡ l.place + l.entry-index * g.T.Entry.SIZE;
  items : take l.next l.page ≡ take l.place l.initial.page ++ flat_map g.T.Entry.spelling (take l.entry-index l.entries);
}
