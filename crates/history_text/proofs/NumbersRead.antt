-- A number that was printed is read back.
use Rattle.std.proofs.Common.{◌≡◌, ◌⊎◌, inl, inr, ℕ, suc, ◌^◌, ◌<◌, ◌≤◌, Bool, true, false, ◌&&◌, ◌==◌, nat_le, int_le, List, [], ◌∷◌, length, Some, None, option_map, option_and_then, ℤ, pos, negsuc, ◌+ℤ◌, ◌-ℤ◌, neg_ℤ, nat_abs, sym, ◌∙◌, ap, subst, arith, if◌then◌else◌, le-leb}
use Rattle.std.specs.Fmt.{decimal, signed_decimal}
use Rattle.std.specs.Str.{all_ascii_digits}
use Rattle.std.specs.Str.Parse.{AllDigits, digits_value}
use Rattle.std.proofs.lemmas.Bool.{and_from, and_parts, ne_eqb}
use Rattle.std.proofs.lemmas.Fmt.{decimal_is_IsNumeral_wide, length-decimal-le_wide}
use Rattle.std.proofs.lemmas.Int.{ints}
use Rattle.std.proofs.lemmas.Str.Parse.{digit_from_value, numerals_by_value, tells_all_ascii_digits}
use Rattle.bw_types.specs.Fits.{coordinate, greatest_number}
use Rattle.bw_types.specs.declared.params.Params.{Params}
use Rattle.csv_rows.specs.Input.{id_of, stored_of, weight_of}
use Rattle.csv_rows.specs.Numbers.{integer_of, is_numeral, number_of, numeral_of, signed_of}
use Rattle.history_text.specs.Rebuilt.{Has64Bits}

-- digits pass the test for digits
digits_are : (ds : List ℕ) → AllDigits 10 ds → all_ascii_digits ds ≡ true
digits_are ds d = (numerals_by_value (λ (bytes : List ℕ). all_ascii_digits bytes ≡ true) tells_all_ascii_digits).from ds d

-- a number of at most twenty digits is a numeral
is_numeral_printed : (n : ℕ) → n < 10 ^ 20 → is_numeral (decimal n) ≡ true
is_numeral_printed n small =
    let numeral = decimal_is_IsNumeral_wide n (omega arith) in
    let short : length (decimal n) ≤ 20 = length-decimal-le_wide 20 n (omega arith) small (omega arith) in
    let some : 1 ≤ length (decimal n) = omega (arith, numeral.0.0) in
    and_from (all_ascii_digits (decimal n) && nat_le 1 (length (decimal n))) (nat_le (length (decimal n)) 20)
    (and_from (all_ascii_digits (decimal n)) (nat_le 1 (length (decimal n))) (digits_are (decimal n) numeral.0.1) (le-leb 1 (length (decimal n)) some))
    (le-leb (length (decimal n)) 20 short)

-- and its value is the number
numeral_read : (n : ℕ) → n < 10 ^ 20 → numeral_of (decimal n) ≡ Some n
numeral_read n small =
    let numeral = decimal_is_IsNumeral_wide n (omega arith) in
    ap (λ (test : Bool). if test then Some (digits_value 10 (decimal n)) else None) (is_numeral_printed n small) ∙ ap Some numeral.1

-- a number that is at most the greatest
pub number_read : (most n : ℕ) → n ≤ most → most < 10 ^ 20 → number_of most (decimal n) ≡ Some n
number_read most n small few =
    ap (option_and_then (λ (number : ℕ). if nat_le number most then Some number else None)) (numeral_read n (omega arith))
    ∙ ap (λ (test : Bool). if test then Some n else None) (le-leb n most small)

-- digits begin with no minus sign
integer_of_digits : (ds : List ℕ) → AllDigits 10 ds → 0 < length ds → integer_of ds ≡ option_map pos (numeral_of ds)
integer_of_digits [] d some = absurd (omega arith)
integer_of_digits (c ∷ cs) d some =
    let range = digit_from_value c d.0 in
    let other : (c == 45) ≡ false = ne_eqb c 45 (λ e. omega arith) in
    ap (λ (test : Bool). if test then option_map (λ (number : ℕ). neg_ℤ (pos number)) (numeral_of cs) else option_map pos (numeral_of (c ∷ cs))) other

-- a signed number of at most twenty digits
integer_read : (z : ℤ) → nat_abs z < 10 ^ 20 → integer_of (signed_decimal z) ≡ Some z
integer_read (pos n) small =
    let numeral = decimal_is_IsNumeral_wide n (omega arith) in
    integer_of_digits (decimal n) numeral.0.1 numeral.0.0 ∙ ap (option_map pos) (numeral_read n small)
integer_read (negsuc n) small = ap (option_map (λ (number : ℕ). neg_ℤ (pos number))) (numeral_read (suc n) small)

-- a signed number that is in its range
signed_read : (least most z : ℤ) → int_le least z ≡ true → int_le z most ≡ true → nat_abs z < 10 ^ 20 → signed_of least most (signed_decimal z) ≡ Some z
signed_read least most z low high small =
    ap (option_and_then (λ (number : ℤ). if int_le least number && int_le number most then Some number else None)) (integer_read z small)
    ∙ ap (λ (test : Bool). if test then Some z else None) (and_from (int_le least z) (int_le z most) low high)

-- an id
pub id_read : (id : ℕ) → id < 2 ^ 64 → id_of (decimal id) ≡ Some id
id_read id small = number_read 18446744073709551615 id (omega arith) (omega arith)

-- a weight or a coefficient
pub weight_read : (z : ℤ) → Has64Bits z → weight_of (signed_decimal z) ≡ Some z
weight_read z bits =
    let both = and_parts (int_le (negsuc 9223372036854775807) z) (int_le z (pos 9223372036854775807)) bits in
    let low : int_le (negsuc 9223372036854775807) z ≡ true = both.0 in
    let high : int_le z (pos 9223372036854775807) ≡ true = both.1 in
    signed_read (negsuc 9223372036854775807) (pos 9223372036854775807) z low high (omega (arith, ints, low, high))

-- the coordinate of a stored number, in a plain warehouse and in a signed one
plain_read : (n : ℕ) → n ≤ 4294967294 → number_of 4294967294 (signed_decimal (pos n -ℤ pos 0)) ≡ Some n
plain_read n small =
    let same : pos n -ℤ pos 0 ≡ pos n = omega (arith, ints) in
    ap (λ (z : ℤ). number_of 4294967294 (signed_decimal z)) same ∙ number_read 4294967294 n small (omega arith)

-- in a signed warehouse the origin is added back
signed_stored : (n : ℕ) → n ≤ 4294967293
    → option_map (λ (c : ℤ). nat_abs (c +ℤ pos 2147483647)) (signed_of (negsuc 2147483646) (pos 2147483646) (signed_decimal (pos n -ℤ pos 2147483647))) ≡ Some n
signed_stored n small =
    let low : int_le (negsuc 2147483646) (pos n -ℤ pos 2147483647) ≡ true = grind (arith, ints) in
    let high : int_le (pos n -ℤ pos 2147483647) (pos 2147483646) ≡ true = grind (arith, ints) in
    let back : nat_abs ((pos n -ℤ pos 2147483647) +ℤ pos 2147483647) ≡ n = omega (arith, ints) in
    ap (option_map (λ (c : ℤ). nat_abs (c +ℤ pos 2147483647))) (signed_read (negsuc 2147483646) (pos 2147483646) (pos n -ℤ pos 2147483647) low high (omega (arith, ints)))
    ∙ ap Some back

-- what is read of a stored number, by the origin
abbrev ReadsAt : ℕ → Type 0
ReadsAt origin = (n : ℕ) → n ≤ (if origin == 0 then 4294967294 else 4294967293)
    → (if origin == 0 then number_of 4294967294 (signed_decimal (pos n -ℤ pos origin))
    else option_map (λ (c : ℤ). nat_abs (c +ℤ pos origin)) (signed_of (negsuc 2147483646) (pos 2147483646) (signed_decimal (pos n -ℤ pos origin)))) ≡ Some n

-- both origins
stored_at : (origin : ℕ) → (origin ≡ 0) ⊎ (origin ≡ 2147483647) → ReadsAt origin
stored_at origin (inl e) = subst ReadsAt (sym e) plain_read
stored_at origin (inr e) = subst ReadsAt (sym e) signed_stored

-- A stored number that is in range is read back from its coordinate.
pub stored_read : (params : Params) (n : ℕ) → (params.origin ≡ 0) ⊎ (params.origin ≡ 2147483647) → n ≤ greatest_number params → stored_of params (signed_decimal (coordinate params n)) ≡ Some n
stored_read params n origin small = stored_at params.origin origin n small
