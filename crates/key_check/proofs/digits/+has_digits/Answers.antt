use Rattle.std.proofs.Common.{rules, arith, ◌≡◌, ◌+◌, ◌/◌}
use Rattle.bw_types.specs.Digits.{digit_count}
use Rattle.key_check.proofs.Numbering.{no_digits, one_digit_more}
use Rattle.key_check.proofs.digits.+has_digits.Goals as goal

pub returns-then-number-eq0 : goal.returns-then-number-eq0
returns-then-number-eq0 t c = (λ never. search rules, λ le. absurd (no_digits c.args.base c.args.number c.args.digits c.requires c.if-number-eq0.true c.if-digits-eq0.false le))

pub returns : goal.returns
returns t c =
    let more : digit_count c.args.base c.args.number ≡ 1 + digit_count c.args.base (c.args.number / c.args.base) = one_digit_more c.args.base c.args.number c.requires c.if-number-eq0.false in
    (λ yes. let few = c.has_digits.ensures.0 yes in omega arith, λ le. c.has_digits.ensures.1 (omega arith))
