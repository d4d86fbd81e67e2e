use Rattle.std.proofs.Common.{◌≡◌, ℕ, ◌<◌, ◌≤◌, false, take}
use Rattle.std.specs.List.{All}
use Rattle.mv_pages.specs.Alive.{is_alive}
use Rattle.key_check.proofs.life.next_at.Given as goal

abbrev pub invariant-loop-e : goal.invariant-loop-e
invariant-loop-e l = record {
  after : l.version < l.until;
  most : l.until ≤ l.to;
  dead : (later : ℕ) → l.version ≤ later → later < l.until → All (λ e. is_alive later e ≡ false) (take l.e-index l.rest);
}
