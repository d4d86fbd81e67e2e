use Rattle.std.proofs.Common.{◌≡◌, ℕ, ◌-◌, ◌<◌, ◌≤◌}
use Rattle.key_check.specs.Cells.{next_low}
use Rattle.key_check.proofs.life.next_of.Given as goal

abbrev pub invariant-loop-next : goal.invariant-loop-next
invariant-loop-next l = record {
  after : l.version < l.next.until;
  most : l.next.until ≤ l.to;
  same : (later : ℕ) → l.version ≤ later → later < l.next.until → next_low l.high l.rest later ≡ l.next.high;
}

abbrev pub decreases-loop-next : goal.decreases-loop-next
decreases-loop-next l = l.to - l.next.until
