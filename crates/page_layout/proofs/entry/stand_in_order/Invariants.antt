use Rattle.std.proofs.Common.{◌-◌, ◌*◌, ◌≤◌, length}
use Rattle.page_layout.proofs.Following.{Left}
use Rattle.page_layout.proofs.entry.stand_in_order.Given as goal

abbrev pub invariant-loop : goal.invariant-loop
invariant-loop g l = record {
  room : (l.count - l.counter) * g.T.Entry.SIZE ≤ length l.rest;
  left : Left (g.T.Entry.keeps l.level) g.T.Entry.precedes g.T.Entry.value_at g.T.Entry.SIZE l.count l.bytes l.last l.counter l.rest;
}
