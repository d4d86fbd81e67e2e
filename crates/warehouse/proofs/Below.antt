-- Tests of the numbers below n.
use Rattle.std.proofs.Common.{◌≡◌, ℕ, zero, suc, ◌<◌, Bool, false, ◌&&◌, ◌⊎◌, inl, inr, refl, arith, nat_le}
use Rattle.std.proofs.Math.Bool.{and-false}
use Rattle.std.proofs.lemmas.Bool.{cases_lt, lt-leb}
use Rattle.bw_types.specs.Tally.{each_below}

-- one number at which the test fails
pub each_below-false : (n i : ℕ) (p : ℕ → Bool) → i < n → p i ≡ false → each_below n p ≡ false
each_below-false zero i p h f = absurd (omega arith)
each_below-false (suc n) i p h f =
    elim (cases_lt i n) [
      | inl lt ↦ rw (each_below-false n i p lt f) refl
      | inr ge ↦ let e : n ≡ i = omega arith in rw e (rw f (and-false _))
    ]

-- two tests fail where the first number of either is above its second
pub either-false : (a b c d : ℕ) → (b < a) ⊎ (d < c) → (nat_le a b && nat_le c d) ≡ false
either-false a b c d (inl h) = rw (lt-leb a b h) refl
either-false a b c d (inr h) = rw (lt-leb c d h) (and-false _)
