-- Residues modulo 2^128: the weights of points, which stand for signed whole numbers.
use Rattle.std.specs.Prelude.{◌≡◌, ℕ, ◌+◌, ◌-◌, ◌*◌, ◌%◌, ◌^◌, ◌<◌, ℤ, pos, ◌+ℤ◌, ◌-ℤ◌, ◌*ℤ◌, neg_ℤ, ◌≤ℤ◌, ◌<ℤ◌, unsigned_abs, nat_lt, if◌then◌else◌}
use Rattle.std.specs.Int.{int_rem_euclid}

-- the residue of a whole number: its remainder by 2^128, from 0 to 2^128 - 1, as Euclid has it
unfoldable pub residue : ℤ → ℕ
residue x = unsigned_abs (int_rem_euclid x (pos (2 ^ 128)))

-- the signed number that a residue stands for: itself below 2^127, and from there on 2^128 less
unfoldable pub signed_of : ℕ → ℤ
signed_of a = if nat_lt a (2 ^ 127) then pos a else pos a -ℤ pos (2 ^ 128)

-- the opposite of a residue: the two make 0
abbrev pub opposite_residue : ℕ → ℕ
opposite_residue a = (2 ^ 128 - a) % 2 ^ 128

-- the residue of a sum is the sum of the residues, modulo 2^128
abbrev pub ResidueOfSum : Type 0
ResidueOfSum = (x y : ℤ) → residue (x +ℤ y) ≡ (residue x + residue y) % 2 ^ 128

-- the residue of a product is the product of the residues, modulo 2^128
abbrev pub ResidueOfProduct : Type 0
ResidueOfProduct = (x y : ℤ) → residue (x *ℤ y) ≡ (residue x * residue y) % 2 ^ 128

-- the residue of the opposite of a number is the opposite of its residue
abbrev pub ResidueOfOpposite : Type 0
ResidueOfOpposite = (x : ℤ) → residue (neg_ℤ x) ≡ opposite_residue (residue x)

-- the residue of a number from 0 on is its remainder
abbrev pub ResidueOfNatural : Type 0
ResidueOfNatural = (a : ℕ) → residue (pos a) ≡ a % 2 ^ 128

-- the residue of a number below 2^128 is that number
abbrev pub ResidueOfSmall : Type 0
ResidueOfSmall = (a : ℕ) → a < 2 ^ 128 → residue (pos a) ≡ a

-- a residue is below 2^128
abbrev pub ResidueIsBelow : Type 0
ResidueIsBelow = (x : ℤ) → residue x < 2 ^ 128

-- a number from -2^127 to 2^127 - 1 is what its residue stands for
abbrev pub SignedOfResidue : Type 0
SignedOfResidue = (x : ℤ) → neg_ℤ (pos (2 ^ 127)) ≤ℤ x → x <ℤ pos (2 ^ 127) → signed_of (residue x) ≡ x

-- a number below 2^128 is the residue of what it stands for
abbrev pub ResidueOfSigned : Type 0
ResidueOfSigned = (a : ℕ) → a < 2 ^ 128 → residue (signed_of a) ≡ a

-- residues may be added in any order
abbrev pub ResiduesCommute : Type 0
ResiduesCommute = (a b : ℕ) → (a + b) % 2 ^ 128 ≡ (b + a) % 2 ^ 128

-- and in any grouping
abbrev pub ResiduesAssociate : Type 0
ResiduesAssociate = (a b c : ℕ) → ((a + b) % 2 ^ 128 + c) % 2 ^ 128 ≡ (a + (b + c) % 2 ^ 128) % 2 ^ 128

-- adding 0 to a residue changes nothing
abbrev pub ZeroAddsNothing : Type 0
ZeroAddsNothing = (a : ℕ) → a < 2 ^ 128 → (a + 0) % 2 ^ 128 ≡ a

-- a residue and its opposite make 0
abbrev pub OppositesCancel : Type 0
OppositesCancel = (a : ℕ) → a < 2 ^ 128 → (a + opposite_residue a) % 2 ^ 128 ≡ 0
