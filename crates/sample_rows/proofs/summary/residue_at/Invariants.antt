use Rattle.std.proofs.Common.{◌≡◌, ◌%◌, ◌^◌, drop, take}
use Rattle.std.specs.Str.{all_ascii_digits}
use Rattle.std.specs.Str.Parse.{digits_value}
use Rattle.sample_rows.proofs.summary.residue_at.Given as goal

-- what the digits so far spell is the value, and the rest tells whether all are digits
abbrev pub invariant-loop-digit : goal.invariant-loop-digit
invariant-loop-digit l =
    (all_ascii_digits l.digits ≡ all_ascii_digits (drop l.digit-index l.digits))
    × (l.value ≡ digits_value 10 (take l.digit-index l.digits) % 2 ^ 128)
