-- The laws of digits.
use Rattle.std.specs.Prelude.{◌≡◌, ℕ, zero, suc, ◌+◌, ◌/◌, ◌^◌, ◌<◌, ◌≤◌, length, refl}
use Rattle.std.specs.Int.Digits.{digits_of}
use Rattle.std.proofs.Common.{subst, arith, inl, inr}
use Rattle.std.proofs.Math.Nat.{pow-le-pow_right}
use Rattle.std.proofs.Math.Dec.{eqb-suc-zero}
use Rattle.std.proofs.lemmas.Bool.{cases_lt}
use Rattle.std.proofs.lemmas.Int.Digits.{number_lt, number_digits_of, all_below_base_digits_of, length-digits_of_step, length-digits_of-le}
use Rattle.bw_types.specs.Digits.{digit_count, DigitsUnfold, DigitsGrow, PowersHaveDigits, DigitsAreFew, DigitsReach}

pub digits_are_few : DigitsAreFew
unfolding digit_count
digits_are_few b k n base below = length-digits_of-le b k n base below

pub digits_reach : DigitsReach
unfolding digit_count
digits_reach b n base =
    subst (λ (m : ℕ). m < b ^ length (digits_of b n)) (number_digits_of b n base) (number_lt b (digits_of b n) (all_below_base_digits_of b n base))

no_digits : (b : ℕ) → digit_count b 0 ≡ 0
unfolding digit_count
no_digits b = refl

digits_above : (b n : ℕ) → 2 ≤ b → 0 < n → digit_count b n ≡ 1 + digit_count b (n / b)
unfolding digit_count
digits_above b n base some =
    let step : digit_count b n ≡ digit_count b (n / b) + 1 = length-digits_of_step b n base some in
    omega arith

pub digits_unfold : DigitsUnfold
digits_unfold b zero base = no_digits b
digits_unfold b (suc n) base = rw (eqb-suc-zero n) (digits_above b (suc n) base (omega arith))

pub digits_grow : DigitsGrow
digits_grow b m n base le =
    let reach : n < b ^ digit_count b n = digits_reach b n base in
    digits_are_few b (digit_count b n) m base (omega arith)

pub powers_have_digits : PowersHaveDigits
powers_have_digits b k n base le =
    elim (cases_lt k (digit_count b n)) [
      | inl more ↦ omega arith
      | inr few ↦
          let reach : n < b ^ digit_count b n = digits_reach b n base in
          let power : b ^ digit_count b n ≤ b ^ k = pow-le-pow_right {n = b} (omega arith) few in
          absurd (omega arith)
    ]
