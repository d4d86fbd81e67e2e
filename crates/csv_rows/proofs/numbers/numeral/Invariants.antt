use Rattle.std.proofs.Common.{◌≡◌, ◌^◌, ◌<◌, drop}
use Rattle.std.specs.Str.{all_ascii_digits}
use Rattle.std.specs.Str.Parse.{digits_value, digits_value_after}
use Rattle.csv_rows.proofs.numbers.numeral.Given as goal

-- the digits so far are digits, and the rest goes on from their value
abbrev pub invariant-loop-digit : goal.invariant-loop-digit
invariant-loop-digit l =
    (all_ascii_digits l.field ≡ all_ascii_digits (drop l.digit-index l.field))
    × (digits_value 10 l.field ≡ digits_value_after 10 l.value (drop l.digit-index l.field))
    × (l.value < 10 ^ l.digit-index)
