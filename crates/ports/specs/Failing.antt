-- What a call that fails leaves, and what a call that does not counts.
use Rattle.std.specs.Prelude.{◌≡◌, ◌-◌}
use Rattle.ports.specs.Count.{raised}
use Rattle.ports.specs.declared.failing.FailingStage.{FailingStage}

module _ {S : Type 0} where
  -- The call failed for the disk, and did not come to the stage below.
  pub record Fails (old new : FailingStage S) : Type 0 where
    pub stage : new.stage ≡ old.stage
    pub faults : new.faults ≡ raised old.faults

  -- The call went to the stage below: there is one call less before the one that fails.
  pub record Counts (old new : FailingStage S) : Type 0 where
    pub calls_left : new.calls_left ≡ old.calls_left - 1
    pub faults : new.faults ≡ old.faults
