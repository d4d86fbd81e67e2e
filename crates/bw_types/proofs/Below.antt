-- Laws of tests and products over the numbers below n.
use Rattle.std.proofs.Common.{◌≡◌, ℕ, zero, suc, ◌^◌, ◌<◌, ◌≤◌, Bool, false, ◌&&◌, ◌⊎◌, inl, inr, refl, arith, lit<, nat_le}
use Rattle.std.proofs.Math.Bool.{and-false}
use Rattle.std.proofs.Math.Nat.{pow-le-pow_left, pow-le-pow_right}
use Rattle.std.proofs.lemmas.Bool.{cases_lt, lt-leb}
use Rattle.bw_types.specs.Tally.{each_below}

-- one number at which the test fails
pub each_below-false : (n i : ℕ) (p : ℕ → Bool) → i < n → p i ≡ false → each_below n p ≡ false
each_below-false zero i p h f = absurd (omega arith)
each_below-false (suc n) i p h f =
    elim (cases_lt i n) [
      | inl lt ↦ rw (each_below-false n i p lt f) refl
      | inr ge ↦ let e : n ≡ i = omega arith in rw e (rw f (and-false _))
    ]

pub power_bound : (b d : ℕ) → b ≤ 3 → d ≤ 3 → b ^ d ≤ 27
power_bound b d hb hd =
    let l : b ^ d ≤ 3 ^ d = pow-le-pow_left hb d in
    let r : 3 ^ d ≤ 27 = pow-le-pow_right (lit< tt) hd in
    omega arith

-- two tests fail where the first or the second number is too large
pub ordered-false : (a b c : ℕ) → (b < a) ⊎ (c < b) → (nat_le a b && nat_le b c) ≡ false
ordered-false a b c (inl h) = rw (lt-leb a b h) refl
ordered-false a b c (inr h) = rw (lt-leb b c h) (and-false _)
