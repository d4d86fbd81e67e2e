use Rattle.std.proofs.Common.{◌∙◌}
use Rattle.sample_rows.proofs.Steps.{no_withdrawals, withdrawals_step}
use Rattle.sample_rows.proofs.rows.put_withdrawals.Goals as goal

pub loop-number-init : goal.loop-number-init
loop-number-init c = no_withdrawals c.args.text.now.items

pub loop-number-preserved : goal.loop-number-preserved
loop-number-preserved c =
    withdrawals_step c.loop-number.number c.args.text.now.items c.loop-number.text.items c.as_bytes.result.now c.put.new.text.items
    c.loop-number.invariant (c.as_bytes.ensures.value ∙ c.in_ok-row.ensures.ok) c.in_ok-put.ensures
