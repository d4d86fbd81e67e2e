-- Signed numbers in eight bytes, in two's complement.
use Rattle.std.specs.Prelude.{◌≡◌, ℕ, ◌<◌, ◌^◌, ◌++◌, ℤ, pos, negsuc, List, length}
use Rattle.std.specs.Int.{w64, cast_unsigned, cast_signed}
use Rattle.std.specs.Int.RustNames.{FitsSigned}
use Rattle.std.proofs.Common.{ap, ◌∙◌, arith}
use Rattle.std.proofs.lemmas.Int.{to_z-of_z}
use Rattle.page_layout.specs.Numbers.{spelled, number_in, length-spelled, number_in-spelled}

-- the eight bytes of a signed number
abbrev pub signed_bytes : ℤ → List ℕ
signed_bytes z = spelled 8 (cast_unsigned w64 z)

-- the signed number in the first eight bytes
abbrev pub signed_at : List ℕ → ℤ
signed_at bytes = cast_signed w64 (number_in 8 bytes)

pub length-signed : (z : ℤ) → length (signed_bytes z) ≡ 8
length-signed z = length-spelled 8 (cast_unsigned w64 z)

eight_bytes : (z : ℤ) → FitsSigned w64 z → cast_unsigned w64 z < 256 ^ 8
eight_bytes (pos n) h = let small : n < 2 ^ 63 = h.sfits in omega arith
eight_bytes (negsuc n) h = omega arith

pub signed-back : (z : ℤ) (rest : List ℕ) → FitsSigned w64 z → signed_at (signed_bytes z ++ rest) ≡ z
signed-back z rest fits =
    ap (λ (n : ℕ). cast_signed w64 n) (number_in-spelled 8 (cast_unsigned w64 z) rest (eight_bytes z fits)) ∙ to_z-of_z w64 z fits
