use Rattle.std.proofs.Common.{◌<◌, ◌^◌}
use Rattle.std.proofs.lemmas.List.Elements.{All-more}
use Rattle.key_check.specs.declared.step.Step.{Step}
use Rattle.key_check.proofs.Jumping.{jumps_more, last_more}
use Rattle.key_check.proofs.jumps.jumps_of.Goals as goal

pub loop-step-preserved : goal.loop-step-preserved
loop-step-preserved c = record {
  jumps_are = jumps_more c.args.steps.now c.loop-step.step-index _ c.loop-step.before c.loop-step.corners.items _ c.jump_to.result c.loop-step-test.true c.loop-step.invariant.before c.loop-step.invariant.jumps_are
      c.in_ok-push.ensures.items c.jump_to.ensures.value;
  typed = All-more (λ (s : Step). s.value < 2 ^ 128) c.args.steps.now c.loop-step.step-index _ c.loop-step-test.true c.loop-step.invariant.typed c.jump_to.ensures.typed;
  before = last_more c.args.steps.now c.loop-step.step-index _ c.loop-step-test.true;
}
