-- One number after the other.
use Rattle.std.proofs.Common.{◌+◌, drop, get_or, pos, ap, rules, w64, FitsSigned}
use Rattle.std.proofs.lemmas.Int.{to_z-of_z}
use Rattle.std.specs.List.{flat_map}
use Rattle.history_text.specs.Rows.{field}
use Rattle.history_text.proofs.FieldSteps.{texts_drop}
use Rattle.history_text.proofs.Gathered.{amid_step, amid_stopped, failed_gives, gave_same, stopped_same}
use Rattle.history_text.proofs.printing.put_fields.Goals as goal

pub returns-in_err-put_field : goal.returns-in_err-put_field
returns-in_err-put_field g c =
    let number = get_or c.args.numbers.now c.loop-number.number-index (pos 0) in
    let fits : FitsSigned w64 number = search rules in
    failed_gives c.from_residual.result c.from_residual.ensures.0
    (amid_stopped (flat_map field (drop (c.loop-number.number-index + 1) c.args.numbers.now)) c.loop-number.invariant
    (stopped_same (ap field (to_z-of_z w64 number fits)) c.in_err-put_field.ensures)
    (texts_drop field c.args.numbers.now c.loop-number.number-index (pos 0) c.loop-number-test.true))

pub loop-number-preserved : goal.loop-number-preserved
loop-number-preserved g c =
    let number = get_or c.args.numbers.now c.loop-number.number-index (pos 0) in
    let fits : FitsSigned w64 number = search rules in
    amid_step (flat_map field (drop (c.loop-number.number-index + 1) c.args.numbers.now)) c.loop-number.invariant
    (gave_same (ap field (to_z-of_z w64 number fits)) c.in_ok-put_field.ensures)
    (texts_drop field c.args.numbers.now c.loop-number.number-index (pos 0) c.loop-number-test.true)
