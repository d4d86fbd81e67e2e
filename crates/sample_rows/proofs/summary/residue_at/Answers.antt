use Rattle.std.proofs.Common.{rules, ◌≡◌, ◌<◌, ◌∙◌, get_or, length, true, arith}
use Rattle.std.specs.Char.{digit_value, is_ascii_digit}
use Rattle.sample_rows.proofs.Wrapped.{digit_more, test_more}
use Rattle.sample_rows.proofs.summary.residue_at.Goals as goal

pub loop-digit-preserved : goal.loop-digit-preserved
loop-digit-preserved c =
    let bytes = c.args.digits.now in
    let i = c.loop-digit.digit-index in
    let inside : i < length bytes = omega (arith, c.loop-digit-test.true) in
    let digit : is_ascii_digit (get_or bytes i 0) ≡ true = search rules in
    let value : digit_value (get_or bytes i 0) ≡ c.from.result = search rules in
    (c.loop-digit.invariant.0 ∙ test_more bytes i inside digit, digit_more bytes i c.loop-digit.value c.from.result inside value c.loop-digit.invariant.1)
