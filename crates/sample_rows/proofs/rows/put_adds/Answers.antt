use Rattle.std.proofs.Common.{refl}
use Rattle.sample_rows.proofs.Steps.{no_adds, adds_step, steps_step}
use Rattle.sample_rows.proofs.rows.put_adds.Goals as goal

pub loop-number-init : goal.loop-number-init
loop-number-init c = (no_adds c.args.draws.now.x c.args.count c.args.text.now.items, refl)

pub loop-number-preserved : goal.loop-number-preserved
loop-number-preserved c = (
  adds_step c.args.draws.now.x c.args.count c.loop-number.number c.loop-number.draws.x c.args.text.now.items c.loop-number.text.items c.put_object.new.text.items c.put_commit.new.text.items c.is_last_of_batch.result
      c.loop-number.invariant.0 c.loop-number.invariant.1 c.in_ok-put_object.ensures.row c.is_last_of_batch.ensures c.in_ok-put_commit.ensures,
  steps_step c.args.draws.now.x c.loop-number.number c.loop-number.draws.x c.put_object.new.draws.x c.loop-number.invariant.1 c.put_object.ensures.steps,
)
