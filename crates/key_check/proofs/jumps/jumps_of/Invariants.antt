use Rattle.std.proofs.Common.{◌≡◌, take}
use Rattle.key_check.specs.Steps.{AreResidues, jumps, last_value}
use Rattle.key_check.proofs.jumps.jumps_of.Given as goal

abbrev pub invariant-loop-step : goal.invariant-loop-step
invariant-loop-step l = record {
  jumps_are : l.corners.items ≡ jumps 0 (take l.step-index l.steps);
  typed : AreResidues (take l.step-index l.steps);
  before : l.before ≡ last_value 0 (take l.step-index l.steps);
}
