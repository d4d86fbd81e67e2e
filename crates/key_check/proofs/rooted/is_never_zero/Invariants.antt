use Rattle.std.proofs.Common.{◌≡◌, drop}
use Rattle.key_check.specs.KeyTrees.{never_zero}
use Rattle.key_check.proofs.rooted.is_never_zero.Given as goal

abbrev pub invariant-loop-step : goal.invariant-loop-step
invariant-loop-step l = never_zero l.fn.from 0 l.steps ≡ never_zero l.from l.value (drop l.step-index l.steps)
