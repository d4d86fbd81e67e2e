use Rattle.redo_journal.proofs.Common.{drop, ◌↔◌, AreInReach}
use Rattle.redo_journal.proofs.replaying.are_in_reach.Given as goal

abbrev pub invariant-loop-home : goal.invariant-loop-home
invariant-loop-home l = AreInReach l.len l.last l.homes ↔ AreInReach l.len l.before (drop l.home-index l.homes)
