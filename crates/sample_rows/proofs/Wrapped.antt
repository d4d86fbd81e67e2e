-- Numbers and sums that are taken modulo 2^128 on the way.
use Rattle.std.proofs.Common.{◌≡◌, ℕ, suc, ◌+◌, ◌-◌, ◌*◌, ◌%◌, ◌^◌, ◌<◌, Bool, true, ◌&&◌, List, length, drop, take, get_or, ℤ, pos, ◌+ℤ◌, ◌-ℤ◌, neg_ℤ, refl, sym, ◌∙◌, ap, arith, drop-cons, to_z, of_z, FitsSigned}
use Rattle.std.specs.Char.{digit_value, is_ascii_digit}
use Rattle.std.specs.Int.{cast_signed, int_wrap, int_wrapping_neg, w128}
use Rattle.std.specs.Str.{all_ascii_digits}
use Rattle.std.specs.Str.Parse.{digits_value}
use Rattle.std.proofs.lemmas.Int.{SFits-int_wrap, int_wrap-add_left, int_wrap-add_right, int_wrap-sub_right, ints, wrapping_add_onto, wrapping_neg_is}
use Rattle.std.proofs.lemmas.Int.Digits.{digits_value_more}

-- one digit more
pub digit_more : (bytes : List ℕ) (i value digit : ℕ) → i < length bytes → digit_value (get_or bytes i 0) ≡ digit → value ≡ digits_value 10 (take i bytes) % 2 ^ 128
    → (value * 10 % 2 ^ 128 + digit) % 2 ^ 128 ≡ digits_value 10 (take (i + 1) bytes) % 2 ^ 128
digit_more bytes i value digit inside is so_far = let more = digits_value_more 10 bytes i inside in omega (arith, is, so_far, more)

pub test_more : (bytes : List ℕ) (i : ℕ) → i < length bytes → is_ascii_digit (get_or bytes i 0) ≡ true → all_ascii_digits (drop i bytes) ≡ all_ascii_digits (drop (i + 1) bytes)
test_more bytes i inside digit =
    let next : suc i ≡ i + 1 = omega arith in
    ap all_ascii_digits (drop-cons bytes i 0 inside)
    ∙ ap (λ (test : Bool). test && all_ascii_digits (drop (suc i) bytes)) digit
    ∙ ap (λ (n : ℕ). all_ascii_digits (drop n bytes)) next

-- the bits of a number
pub wrapped_number : (n : ℕ) → cast_signed w128 (n % 2 ^ 128) ≡ int_wrap w128 (pos n)
unfolding int_wrap
wrapped_number n = refl

-- the opposite of a number
pub wrapped_opposite : (z : ℤ) → int_wrapping_neg w128 (int_wrap w128 z) ≡ int_wrap w128 (neg_ℤ z)
wrapped_opposite z =
    let first : neg_ℤ (int_wrap w128 z) ≡ pos 0 -ℤ int_wrap w128 z = omega (arith, ints) in
    let last : pos 0 -ℤ z ≡ neg_ℤ z = omega (arith, ints) in
    wrapping_neg_is w128 (int_wrap w128 z) (SFits-int_wrap w128 z) ∙ ap (int_wrap w128) first ∙ int_wrap-sub_right w128 (pos 0) z ∙ ap (int_wrap w128) last

-- a sum of this and that
wrapped_sum : (bits : ℕ) (a x : ℤ) → bits < 2 ^ 128 → FitsSigned w128 a → a ≡ int_wrap w128 x → to_z w128 ((bits + of_z w128 a) % 2 ^ 128) ≡ int_wrap w128 (to_z w128 bits +ℤ x)
wrapped_sum bits a x fits small is =
    wrapping_add_onto w128 bits a fits small ∙ ap (λ (u : ℤ). int_wrap w128 (to_z w128 bits +ℤ u)) is ∙ int_wrap-add_right w128 (to_z w128 bits) x

-- a total goes on with x, and y is left
pub total_more : (whole t x y a : ℤ) (bits : ℕ) → bits < 2 ^ 128 → FitsSigned w128 a → whole ≡ int_wrap w128 (to_z w128 bits +ℤ t) → a ≡ int_wrap w128 x → t ≡ x +ℤ y
    → whole ≡ int_wrap w128 (to_z w128 ((bits + of_z w128 a) % 2 ^ 128) +ℤ y)
total_more whole t x y a bits fits small so_far is parts =
    let moved : to_z w128 bits +ℤ t ≡ (to_z w128 bits +ℤ x) +ℤ y = omega (arith, ints, parts) in
    so_far ∙ ap (int_wrap w128) moved ∙ sym (int_wrap-add_left w128 (to_z w128 bits +ℤ x) y) ∙ ap (λ (u : ℤ). int_wrap w128 (u +ℤ y)) (sym (wrapped_sum bits a x fits small is))

-- a total ends with x
pub total_ends : (whole t x a : ℤ) (bits : ℕ) → bits < 2 ^ 128 → FitsSigned w128 a → whole ≡ int_wrap w128 (to_z w128 bits +ℤ t) → a ≡ int_wrap w128 x → t ≡ x +ℤ pos 0
    → to_z w128 ((bits + of_z w128 a) % 2 ^ 128) ≡ whole
total_ends whole t x a bits fits small so_far is last =
    let same : to_z w128 bits +ℤ x ≡ to_z w128 bits +ℤ t = omega (arith, ints, last) in
    wrapped_sum bits a x fits small is ∙ ap (int_wrap w128) same ∙ sym so_far
