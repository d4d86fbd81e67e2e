-- The laws of residues.
use Rattle.std.specs.Prelude.{◌≡◌, ℕ, ◌+◌, ◌-◌, ◌*◌, ◌%◌, ◌^◌, ◌<◌, ℤ, pos, negsuc, ◌+ℤ◌, ◌*ℤ◌, neg_ℤ, ◌≤ℤ◌, ◌<ℤ◌, FitsSigned, refl}
use Rattle.std.specs.Int.{w128, cast_signed, cast_unsigned, int_wrap}
use Rattle.std.proofs.Common.{sym, ◌∙◌, ap, arith, lit<, inl, inr}
use Rattle.std.proofs.Math.Nat.{mod-lt, mod-eq_of_lt}
use Rattle.std.proofs.lemmas.Bool.{cases_lt, lt-ltb, le-ltb}
use Rattle.std.proofs.lemmas.Int.{ints, of_z-to_z, int_wrap-add_left, int_wrap-add_right, int_wrap-mul_left, int_wrap-mul_right, wrapping_add-bits, wrapping_mul-bits, int_wrap_fits, SFits-int_wrap}
use Rattle.bw_types.specs.Residues.{residue, signed_of, opposite_residue, ResidueOfSum, ResidueOfProduct, ResidueOfOpposite, ResidueOfNatural, ResidueOfSmall, ResidueIsBelow, SignedOfResidue, ResidueOfSigned}

pub residue_is_below : ResidueIsBelow
unfolding residue
residue_is_below (pos n) = mod-lt n (lit< tt)
residue_is_below (negsuc n) = omega arith

pub residue_of_natural : ResidueOfNatural
unfolding residue
residue_of_natural a = refl

pub residue_of_small : ResidueOfSmall
residue_of_small a h = residue_of_natural a ∙ mod-eq_of_lt h

-- the bits that wrapping leaves are the residue
residue_of_wrapped : (x : ℤ) → cast_unsigned w128 (int_wrap w128 x) ≡ residue x
unfolding residue int_wrap
residue_of_wrapped x = of_z-to_z w128 (residue x) (residue_is_below x)

wrapped_residue : (x : ℤ) → int_wrap w128 x ≡ cast_signed w128 (residue x)
unfolding residue int_wrap
wrapped_residue x = refl

pub residue_of_sum : ResidueOfSum
residue_of_sum x y =
    let wrapped = wrapping_add-bits w128 (residue x) (residue y) (residue_is_below x) (residue_is_below y) in
    let left = int_wrap-add_left w128 x (cast_signed w128 (residue y)) in
    let right = int_wrap-add_right w128 x y in
    let bits = of_z-to_z w128 ((residue x + residue y) % 2 ^ 128) (mod-lt (residue x + residue y) (lit< tt)) in
    let e : int_wrap w128 (x +ℤ y) ≡ cast_signed w128 ((residue x + residue y) % 2 ^ 128) =
    sym right ∙ ap (λ z. int_wrap w128 (x +ℤ z)) (wrapped_residue y) ∙ sym left ∙ ap (λ z. int_wrap w128 (z +ℤ cast_signed w128 (residue y))) (wrapped_residue x) ∙ sym wrapped in
    sym (residue_of_wrapped (x +ℤ y)) ∙ ap (cast_unsigned w128) e ∙ bits

pub residue_of_product : ResidueOfProduct
residue_of_product x y =
    let wrapped = wrapping_mul-bits w128 (residue x) (residue y) (residue_is_below x) (residue_is_below y) in
    let left = int_wrap-mul_left w128 x (cast_signed w128 (residue y)) in
    let right = int_wrap-mul_right w128 x y in
    let bits = of_z-to_z w128 ((residue x * residue y) % 2 ^ 128) (mod-lt (residue x * residue y) (lit< tt)) in
    let e : int_wrap w128 (x *ℤ y) ≡ cast_signed w128 ((residue x * residue y) % 2 ^ 128) =
    sym right ∙ ap (λ z. int_wrap w128 (x *ℤ z)) (wrapped_residue y) ∙ sym left ∙ ap (λ z. int_wrap w128 (z *ℤ cast_signed w128 (residue y))) (wrapped_residue x) ∙ sym wrapped in
    sym (residue_of_wrapped (x *ℤ y)) ∙ ap (cast_unsigned w128) e ∙ bits

-- a residue is determined by what it adds to another to make 0
only_opposite : (a b : ℕ) → a < 2 ^ 128 → b < 2 ^ 128 → (a + b) % 2 ^ 128 ≡ 0 → b ≡ opposite_residue a
only_opposite a b ha hb e = omega arith

pub residue_of_opposite : ResidueOfOpposite
residue_of_opposite x =
    let zero_sum : x +ℤ neg_ℤ x ≡ pos 0 = omega (arith, ints) in
    let sum : (residue x + residue (neg_ℤ x)) % 2 ^ 128 ≡ 0 =
    sym (residue_of_sum x (neg_ℤ x)) ∙ ap residue zero_sum ∙ residue_of_small 0 (lit< tt) in
    only_opposite (residue x) (residue (neg_ℤ x)) (residue_is_below x) (residue_is_below (neg_ℤ x)) sum

-- what a number below 2^128 stands for is how a cast to a signed number reads its bits
pub signed_of_cast : (a : ℕ) → a < 2 ^ 128 → signed_of a ≡ cast_signed w128 a
unfolding signed_of
signed_of_cast a h = elim (cases_lt a (2 ^ 127)) [
  | inl low ↦ rw (lt-ltb a (2 ^ 127) low) refl
  | inr high ↦ rw (le-ltb a (2 ^ 127) high, lt-ltb a (2 ^ 128) h) refl
]

pub residue_of_signed : ResidueOfSigned
residue_of_signed a h =
    let wrapped : int_wrap w128 (pos a) ≡ cast_signed w128 a = wrapped_residue (pos a) ∙ ap (cast_signed w128) (residue_of_small a h) in
    let signed : signed_of a ≡ int_wrap w128 (pos a) = signed_of_cast a h ∙ sym wrapped in
    ap residue signed
    ∙ sym (residue_of_wrapped (int_wrap w128 (pos a)))
    ∙ ap (cast_unsigned w128) (int_wrap_fits w128 (int_wrap w128 (pos a)) (SFits-int_wrap w128 (pos a)) ∙ wrapped)
    ∙ of_z-to_z w128 a h

fits_between : (x : ℤ) → neg_ℤ (pos (2 ^ 127)) ≤ℤ x → x <ℤ pos (2 ^ 127) → FitsSigned w128 x
fits_between (pos n) low high = record { sfits = omega (arith, ints) }
fits_between (negsuc n) low high = record { sfits = omega (arith, ints) }

pub signed_of_residue : SignedOfResidue
signed_of_residue x low high =
    signed_of_cast (residue x) (residue_is_below x) ∙ sym (wrapped_residue x) ∙ int_wrap_fits w128 x (fits_between x low high)

-- the bits of a signed number of 128 bits are its residue
pub residue_of_bits : (x : ℤ) → FitsSigned w128 x → cast_unsigned w128 x ≡ residue x
residue_of_bits x h = ap (cast_unsigned w128) (sym (int_wrap_fits w128 x h)) ∙ residue_of_wrapped x
