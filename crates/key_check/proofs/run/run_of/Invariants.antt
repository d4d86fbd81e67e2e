use Rattle.std.proofs.Common.{length, ◌-◌, ◌<◌, ◌≤◌}
use Rattle.key_check.proofs.Runs.{SameRun}
use Rattle.key_check.proofs.run.run_of.Given as goal

abbrev pub invariant-loop-last : goal.invariant-loop-last
invariant-loop-last l = record {
  on : l.place ≤ l.last;
  within : l.last < length l.entries;
  run : SameRun l.entries l.place l.last;
}

abbrev pub decreases-loop-last : goal.decreases-loop-last
decreases-loop-last l = length l.entries - l.last
