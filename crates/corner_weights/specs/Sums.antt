-- Sums over the numbers below n, of whole numbers and of residues.
use Rattle.std.specs.Prelude.{◌≡◌, ℕ, zero, suc, ◌+◌, ◌%◌, ◌^◌, ◌<◌, ℤ, pos, ◌+ℤ◌}
use Rattle.bw_types.specs.Residues.{residue}

-- the sum of the whole numbers f k over the numbers k below n
abbrev pub int_sum_below : ℕ → (ℕ → ℤ) → ℤ
int_sum_below zero f = pos 0
int_sum_below (suc n) f = int_sum_below n f +ℤ f n

-- the sum modulo 2^128 of the residues f k over the numbers k below n
abbrev pub residue_sum_below : ℕ → (ℕ → ℕ) → ℕ
residue_sum_below zero f = 0
residue_sum_below (suc n) f = (residue_sum_below n f + f n) % 2 ^ 128

-- The residue of a sum is the sum of the residues.
abbrev pub ResidueOfSumBelow : Type 0
ResidueOfSumBelow = (n : ℕ) (f : ℕ → ℤ) → residue (int_sum_below n f) ≡ residue_sum_below n (λ k. residue (f k))

-- A sum of sums of residues is the sum of the two sums.
abbrev pub SumBelowOfSums : Type 0
SumBelowOfSums = (n : ℕ) (f g : ℕ → ℕ) → residue_sum_below n (λ k. (f k + g k) % 2 ^ 128) ≡ (residue_sum_below n f + residue_sum_below n g) % 2 ^ 128

-- A sum of zeros is 0.
abbrev pub SumBelowOfNothing : Type 0
SumBelowOfNothing = (n : ℕ) → residue_sum_below n (λ k. 0) ≡ 0

-- Sums of residues that are equal for each number below n are equal.
abbrev pub SumBelowOfEqual : Type 0
SumBelowOfEqual = (n : ℕ) (f g : ℕ → ℕ) → ((k : ℕ) → k < n → f k ≡ g k) → residue_sum_below n f ≡ residue_sum_below n g
