use Rattle.std.proofs.Common.{drop, ◌↔◌}
use Rattle.redo_journal.specs.Placing.{AreInReach}
use Rattle.settled_pages.proofs.heads.are_in_reach.Given as goal

abbrev pub invariant-loop-home : goal.invariant-loop-home
invariant-loop-home l = AreInReach l.len l.last l.homes ↔ AreInReach l.len l.before (drop l.home-index l.homes)
