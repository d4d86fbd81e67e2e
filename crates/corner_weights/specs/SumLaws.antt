-- The laws of signs and of sums.
use Rattle.std.specs.Prelude.{◌≡◌, ℕ, zero, suc, ◌+◌, ◌%◌, ◌^◌, ◌<◌, Bool, true, false, if◌then◌else◌, ℤ, neg_ℤ, refl}
use Rattle.std.proofs.Common.{arith, lit<, ◌∙◌, ap}
use Rattle.bw_types.specs.Residues.{residue, opposite_residue}
use Rattle.bw_types.specs.ResidueLaws.{residue_of_sum, residue_of_opposite, residue_of_small}
use Rattle.corner_weights.specs.Subsets.{is_odd_subset, ResidueKeepsSign, SignOfResidueSum, SignOfNothing}
use Rattle.corner_weights.specs.Sums.{int_sum_below, residue_sum_below, ResidueOfSumBelow, SumBelowOfSums, SumBelowOfNothing, SumBelowOfEqual}

-- sums of equal numbers are equal
pub int_sum_below-equal : (n : ℕ) (f g : ℕ → ℤ) → ((k : ℕ) → f k ≡ g k) → int_sum_below n f ≡ int_sum_below n g
int_sum_below-equal zero f g e = refl
int_sum_below-equal (suc n) f g e = rw (int_sum_below-equal n f g e, e n) refl

pub sum_below_of_equal : SumBelowOfEqual
sum_below_of_equal zero f g e = refl
sum_below_of_equal (suc n) f g e = rw (sum_below_of_equal n f g (λ k h. e k (omega arith)), e n (omega arith)) refl

residue_of_signed_by : (odd : Bool) (x : ℤ) → residue (if odd then neg_ℤ x else x) ≡ (if odd then opposite_residue (residue x) else residue x)
residue_of_signed_by true x = residue_of_opposite x
residue_of_signed_by false x = refl

pub residue_keeps_sign : ResidueKeepsSign
residue_keeps_sign subset x = residue_of_signed_by (is_odd_subset subset) x

pub residue_of_sum_below : ResidueOfSumBelow
residue_of_sum_below zero f = residue_of_small 0 (lit< tt)
residue_of_sum_below (suc n) f =
    residue_of_sum (int_sum_below n f) (f n) ∙ ap (λ s. (s + residue (f n)) % 2 ^ 128) (residue_of_sum_below n f)

-- the opposite of a sum is the sum of the opposites
opposite_of_sum : (a b : ℕ) → a < 2 ^ 128 → b < 2 ^ 128 → opposite_residue ((a + b) % 2 ^ 128) ≡ (opposite_residue a + opposite_residue b) % 2 ^ 128
opposite_of_sum a b ha hb = omega arith

sign_of_sum : (odd : Bool) (a b : ℕ) → a < 2 ^ 128 → b < 2 ^ 128
    → (if odd then opposite_residue ((a + b) % 2 ^ 128) else (a + b) % 2 ^ 128) ≡ ((if odd then opposite_residue a else a) + (if odd then opposite_residue b else b)) % 2 ^ 128
sign_of_sum true a b ha hb = opposite_of_sum a b ha hb
sign_of_sum false a b ha hb = refl

pub sign_of_residue_sum : SignOfResidueSum
sign_of_residue_sum subset a b ha hb = sign_of_sum (is_odd_subset subset) a b ha hb

sign_of_zero : (odd : Bool) → (if odd then opposite_residue 0 else 0) ≡ 0
sign_of_zero true = refl
sign_of_zero false = refl

pub sign_of_nothing : SignOfNothing
sign_of_nothing subset = sign_of_zero (is_odd_subset subset)

-- sums of four residues, two by two
sum_of_four : (a b c d : ℕ) → ((a + b) % 2 ^ 128 + (c + d) % 2 ^ 128) % 2 ^ 128 ≡ ((a + c) % 2 ^ 128 + (b + d) % 2 ^ 128) % 2 ^ 128
sum_of_four a b c d = omega arith

pub sum_below_of_sums : SumBelowOfSums
sum_below_of_sums zero f g = refl
sum_below_of_sums (suc n) f g =
    ap (λ s. (s + (f n + g n) % 2 ^ 128) % 2 ^ 128) (sum_below_of_sums n f g) ∙ sum_of_four (residue_sum_below n f) (residue_sum_below n g) (f n) (g n)

pub sum_below_of_nothing : SumBelowOfNothing
sum_below_of_nothing zero = refl
sum_below_of_nothing (suc n) = rw (sum_below_of_nothing n) refl
