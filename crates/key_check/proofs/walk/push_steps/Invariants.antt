use Rattle.std.proofs.Common.{◌≡◌, ◌++◌, take}
use Rattle.key_check.specs.Steps.{after_all, entries_steps, leaf_steps}
use Rattle.key_check.proofs.walk.push_steps.Given as goal

abbrev pub invariant-loop-entry : goal.invariant-loop-entry
invariant-loop-entry l = record {
  before : l.before ≡ after_all l.fn.before (take l.entry-index l.entries);
  steps : l.steps.items ≡ l.fn.steps.items ++ entries_steps leaf_steps l.fn.before (take l.entry-index l.entries);
}
