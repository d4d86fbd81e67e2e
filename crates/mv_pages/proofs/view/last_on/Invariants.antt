use Rattle.std.proofs.Common.{ℕ, ◌≤◌}
use Rattle.mv_pages.specs.Alive.{IsBegunCount}
use Rattle.mv_pages.proofs.Begun.{PassedOver}
use Rattle.mv_pages.proofs.view.last_on.Given as goal

abbrev pub invariant-loop-rest : goal.invariant-loop-rest
invariant-loop-rest l = record {
  fits : l.rest ≤ l.begun;
  passed : (key : ℕ) → IsBegunCount l.view.entries.items key l.begun → PassedOver l.view.entries.items key l.version l.rest;
}

abbrev pub decreases-loop-rest : goal.decreases-loop-rest
decreases-loop-rest l = l.rest
