use Rattle.std.proofs.Common.{refl}
use Rattle.key_check.specs.Steps.{leaf_steps}
use Rattle.key_check.proofs.Walking.{leaf_more, value_more}
use Rattle.key_check.proofs.walk.push_steps.Goals as goal

pub loop-entry-preserved : goal.loop-entry-preserved
loop-entry-preserved c = record {
  before = value_more c.args.before c.loop-entry.before c.args.entries.now c.loop-entry.entry-index _ c.loop-entry-test.true c.loop-entry.invariant.before;
  steps = leaf_more leaf_steps c.args.before c.loop-entry.before c.args.entries.now c.loop-entry.entry-index _ c.args.steps.now.items c.loop-entry.steps.items c.push.new.self.items _
      c.loop-entry-test.true c.loop-entry.invariant.before c.loop-entry.invariant.steps c.in_ok-push.ensures.items refl;
}
