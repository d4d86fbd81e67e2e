use Rattle.redo_journal.proofs.Common.{◌≡◌, ◌+◌, ◌<◌, ◌≤◌, ◌++◌, ◌^◌, drop, length, All, coming, homes_of}
use Rattle.redo_journal.proofs.committing.next_head.Given as goal

abbrev pub invariant-loop : goal.invariant-loop
invariant-loop l = record {
  left : l.count ≤ l.counter + length (coming l.homes);
  rest : drop l.counter (coming l.fn.homes) ≡ coming l.homes;
  all : l.named.items ++ homes_of (coming l.homes) ≡ homes_of (coming l.fn.homes);
  len : length l.named.items ≡ l.counter;
  typed : All (λ home. home < 2 ^ 64) l.named.items;
}
