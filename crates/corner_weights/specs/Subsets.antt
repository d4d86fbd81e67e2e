-- Subsets of the dimensions, each told by a number: bit i is 1 where dimension i belongs to it.
use Rattle.std.specs.Prelude.{◌≡◌, ◌<◌, ℕ, ◌+◌, ◌/◌, ◌%◌, ◌^◌, Bool, ◌==◌, if◌then◌else◌, ℤ, neg_ℤ}
use Rattle.bw_types.specs.Residues.{residue, opposite_residue}

-- the dimension belongs to the subset
abbrev pub is_in_subset : ℕ → ℕ → Bool
is_in_subset dimension subset = subset / 2 ^ dimension % 2 == 1

-- 1 where the dimension belongs to the subset, else 0
abbrev pub counted_in_subset : ℕ → ℕ → ℕ
counted_in_subset dimension subset = if is_in_subset dimension subset then 1 else 0

-- how many of the three dimensions belong to the subset
abbrev pub subset_size : ℕ → ℕ
subset_size subset = counted_in_subset 0 subset + counted_in_subset 1 subset + counted_in_subset 2 subset

-- an odd number of dimensions belong to the subset
abbrev pub is_odd_subset : ℕ → Bool
is_odd_subset subset = subset_size subset % 2 == 1

-- the whole number with the sign of the subset: its opposite where the subset is odd, else itself
abbrev pub signed_by : ℕ → ℤ → ℤ
signed_by subset x = if is_odd_subset subset then neg_ℤ x else x

-- the residue with the sign of the subset: its opposite where the subset is odd, else itself
abbrev pub residue_signed_by : ℕ → ℕ → ℕ
residue_signed_by subset value = if is_odd_subset subset then opposite_residue value else value

-- The residue of a signed number is the signed residue.
abbrev pub ResidueKeepsSign : Type 0
ResidueKeepsSign = (subset : ℕ) (x : ℤ) → residue (signed_by subset x) ≡ residue_signed_by subset (residue x)

-- The sign of a sum of residues is the sum of the signed residues.
abbrev pub SignOfResidueSum : Type 0
SignOfResidueSum = (subset a b : ℕ) → a < 2 ^ 128 → b < 2 ^ 128
    → residue_signed_by subset ((a + b) % 2 ^ 128) ≡ (residue_signed_by subset a + residue_signed_by subset b) % 2 ^ 128

-- The signed residue of 0 is 0, so sums of none are.
abbrev pub SignOfNothing : Type 0
SignOfNothing = (subset : ℕ) → residue_signed_by subset 0 ≡ 0
