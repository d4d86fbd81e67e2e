use Rattle.std.proofs.Common.{◌≡◌, ℕ, ◌+◌, ◌^◌, ◌<◌, ◌≤◌, List, IsTrue, take}
use Rattle.bw_types.specs.History.{flat}
use Rattle.bw_types.specs.Refusals.{total_mass}
use Rattle.bw_types.specs.declared.change.Change.{Change}
use Rattle.session_book.specs.Told.{TellsLives}
use Rattle.session_book.proofs.Rows.{IsSoFar}
use Rattle.session_book.proofs.refusals.first_refused_row.Given as goal

abbrev pub invariant-loop-i : goal.invariant-loop-i
invariant-loop-i g l = record {
  faults : g.V.Seen.faults l.fn.seen ≤ g.V.Seen.faults l.seen;
  tells : g.V.Seen.tells l.fn.seen → g.V.Seen.tells l.seen;
  life_of : g.V.Seen.life_of l.seen ≡ g.V.Seen.life_of l.fn.seen;
  may_blame : (page : ℕ) → g.V.Seen.may_blame l.seen page → g.V.Seen.may_blame l.fn.seen page;
  stays : g.V.Seen.stays l.fn.seen l.seen;
  mass : l.batch.mass < 2 ^ 126;
  total : l.batch.mass ≡ l.mass + total_mass l.params (flat (take l.i l.rows));
  so_far : g.V.Seen.tells l.fn.seen → (past : List Change) → TellsLives (g.V.Seen.life_of l.fn.seen) past → l.mass ≡ total_mass l.params past → IsSoFar l.params (g.V.Seen.life_of l.fn.seen) past l.rows l.i l.batch;
}
