-- The numbers that fields spell.
use Rattle.std.specs.Prelude.{ℕ, Bool, ◌&&◌, ◌==◌, nat_le, if◌then◌else◌, List, [], ◌∷◌, length, Option, Some, None, option_map, ℤ, pos, int_le}
use Rattle.std.specs.Option.{option_and_then}
use Rattle.std.specs.Str.{all_ascii_digits}
use Rattle.std.specs.Str.Parse.{digits_value}
use lib.IntN.{neg_ℤ}

-- whether a field is a numeral: 1 to 20 decimal digits, and nothing else
abbrev pub is_numeral : List ℕ → Bool
is_numeral field = all_ascii_digits field && nat_le 1 (length field) && nat_le (length field) 20

-- the number that a field of digits alone spells; leading zeros count as digits
abbrev pub numeral_of : List ℕ → Option ℕ
numeral_of field = if is_numeral field then Some (digits_value 10 field) else None

-- the number of a field, where it is at most `most`
abbrev pub number_of : ℕ → List ℕ → Option ℕ
number_of most field = option_and_then (λ number. if nat_le number most then Some number else None) (numeral_of field)

-- the signed number of a field: a numeral, or a minus sign and then a numeral
abbrev pub integer_of : List ℕ → Option ℤ
integer_of [] = None
integer_of (byte ∷ rest) =
    if byte == 45 then option_map (λ number. neg_ℤ (pos number)) (numeral_of rest)
    else option_map pos (numeral_of (byte ∷ rest))

-- the signed number of a field, where it is from `least` to `most`
abbrev pub signed_of : ℤ → ℤ → List ℕ → Option ℤ
signed_of least most field =
    option_and_then (λ number. if int_le least number && int_le number most then Some number else None) (integer_of field)
