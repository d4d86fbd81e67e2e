-- The sizes of signed numbers: of sums, products and powers.
use Rattle.std.proofs.Common.{◌≡◌, ℕ, zero, suc, ◌+◌, ◌*◌, ◌%◌, ◌^◌, ◌<◌, ◌≤◌, true, false, cond, ◌==◌, ℤ, pos, negsuc, ◌+ℤ◌, ◌-ℤ◌, ◌*ℤ◌, neg_ℤ, nat_abs, refl, arith, lit<, FitsSigned}
use Rattle.std.proofs.Math.Nat.{pow-le-pow_left, pow-le-pow_right, mul-le-mul_right}
use Rattle.std.proofs.lemmas.Int.{ints, unsigned_abs-mul}
use Rattle.std.specs.Int.{int_pow, w128}

pub abs-neg : (z : ℤ) → nat_abs (neg_ℤ z) ≡ nat_abs z
abs-neg (pos zero) = refl
abs-neg (pos (suc n)) = refl
abs-neg (negsuc n) = refl

pub abs-pow : (z : ℤ) (e : ℕ) → nat_abs (int_pow z e) ≡ nat_abs z ^ e
abs-pow (pos a) e = refl
abs-pow (negsuc a) e =
    elim (e % 2 == 0) as (λ even. nat_abs (cond even (pos (suc a ^ e)) (neg_ℤ (pos (suc a ^ e)))) ≡ suc a ^ e) [
      | true ↦ refl
      | false ↦ abs-neg (pos (suc a ^ e))
    ]

pub abs-add : (a b : ℤ) → nat_abs (a +ℤ b) ≤ nat_abs a + nat_abs b
abs-add a b = omega (arith, ints)

pub abs-sub : (a b : ℤ) → nat_abs (a -ℤ b) ≤ nat_abs a + nat_abs b
abs-sub a b = omega (arith, ints)

-- a number of this size fits 128 bits
pub fits_from_abs : (z : ℤ) → nat_abs z < 2 ^ 127 → FitsSigned w128 z
fits_from_abs z h = omega (arith, ints)

-- a coordinate to a power of at most 3
pub power_small : (x n : ℕ) → x < 2 ^ 32 → n ≤ 3 → x ^ n ≤ 2 ^ 96
power_small x n h small =
    let base : x ^ n ≤ (2 ^ 32) ^ n = pow-le-pow_left (omega arith) n in
    let top : (2 ^ 32) ^ n ≤ (2 ^ 32) ^ 3 = pow-le-pow_right (lit< tt) {j = 3} (omega arith) in
    omega arith

pub abs-mul : (a b : ℤ) → nat_abs (a *ℤ b) ≡ nat_abs a * nat_abs b
abs-mul a b = unsigned_abs-mul a b

-- a moment fits 128 bits
pub moment_fits : (f h l : ℤ) → nat_abs f ≤ 6 → nat_abs h ≤ 2 ^ 96 → nat_abs l ≤ 2 ^ 96 → FitsSigned w128 (f *ℤ (h -ℤ l))
moment_fits f h l hf hh hl =
    let size = abs-mul f (h -ℤ l) in
    let difference = abs-sub h l in
    let left : nat_abs f * nat_abs (h -ℤ l) ≤ 6 * nat_abs (h -ℤ l) = mul-le-mul_right (nat_abs (h -ℤ l)) hf in
    fits_from_abs (f *ℤ (h -ℤ l)) (omega arith)

pub difference_fits : (h l : ℤ) → nat_abs h ≤ 2 ^ 96 → nat_abs l ≤ 2 ^ 96 → FitsSigned w128 (h -ℤ l)
difference_fits h l hh hl =
    let difference = abs-sub h l in
    fits_from_abs (h -ℤ l) (omega arith)
