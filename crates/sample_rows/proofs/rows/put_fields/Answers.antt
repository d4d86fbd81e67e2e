use Rattle.std.proofs.Common.{◌∙◌}
use Rattle.sample_rows.proofs.Steps.{fields_step}
use Rattle.sample_rows.proofs.rows.put_fields.Goals as goal

pub loop-number-preserved : goal.loop-number-preserved
loop-number-preserved c =
    fields_step c.args.numbers.now c.loop-number.number-index c.args.text.now.items c.loop-number.text.items c.as_bytes.result.now c.put.new.text.items c.loop-number-test.true
    c.loop-number.invariant (c.as_bytes.ensures.value ∙ c.in_ok-field.ensures.ok) c.in_ok-put.ensures
