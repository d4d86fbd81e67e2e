use Rattle.std.proofs.Common.{◌≡◌, ◌+◌, ◌≤◌, ◌++◌, true, take, drop, length, vec_len, vec_capacity}
use Rattle.bw_types.specs.History.{History, changes, flat}
use Rattle.warehouse.specs.Events.{changes_of, have_lives, KeepsObjects}
use Rattle.warehouse.specs.Kept.{state_in, KnowsAll, IsLedger, may_all_follow}
use Rattle.warehouse.proofs.apply.enter_all.Given as goal

abbrev pub invariant-loop-row : goal.invariant-loop-row
invariant-loop-row l = record {
  room : vec_len l.lives + length l.rows ≤ vec_capacity l.lives + l.row-index;
  events_room : vec_len l.events + length (flat l.rows) ≤ vec_capacity l.events + length (flat (take l.row-index l.rows));
  known : KnowsAll l.states l.rows;
  ledger : (h : History) → IsLedger h (changes h) l.version l.fn.lives.items (state_in l.fn.states) → may_all_follow (changes h) (flat l.rows) ≡ true
      → IsLedger h (changes h ++ flat (take l.row-index l.rows)) l.version l.lives.items (state_in l.states);
  objects : KeepsObjects l.fn.lives.items l.lives.items;
  events : have_lives l.fn.lives.items l.fn.events.items ≡ true
      → (changes_of l.lives.items l.events.items ≡ changes_of l.fn.lives.items l.fn.events.items ++ flat (take l.row-index l.rows))
      × (have_lives l.lives.items l.events.items ≡ true);
  follow : (h : History) → may_all_follow (changes h) (flat l.rows) ≡ true
      → may_all_follow (changes h ++ flat (take l.row-index l.rows)) (flat (drop l.row-index l.rows)) ≡ true;
}
