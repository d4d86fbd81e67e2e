-- Entries of multiversion nodes by the one number that their low and their start make.
use Rattle.std.proofs.Common.{◌≡◌, ◌⊎◌, inl, inr, ℕ, ◌+◌, ◌*◌, ◌^◌, ◌<◌, ◌↔◌, Bool, true, false, IsTrue, refl, ap, ◌∙◌, arith}
use Rattle.std.specs.Prelude.{◌||◌, ◌&&◌, ◌==◌, nat_lt}
use Rattle.std.proofs.Math.Bool.{or-true}
use Rattle.std.proofs.lemmas.Bool.{ltb-true, lt-ltb, eqb-true}
use Rattle.std.proofs.lemmas.Bool.Decides.{eqb_tells}
use Rattle.page_layout.specs.TreeValue.{both_true}

either : (p q : Bool) → IsTrue (p || q) → IsTrue p ⊎ IsTrue q
either true q h = inl refl
either false q h = inr h

-- Of two numbers in the same base the first digits decide, and the second ones where those are equal.
pub digits_decide : (a s b t : ℕ) → s < 2 ^ 64 → t < 2 ^ 64 → IsTrue (nat_lt (a * 2 ^ 64 + s) (b * 2 ^ 64 + t)) ↔ IsTrue (nat_lt a b || (a == b && nat_lt s t))
digits_decide a s b t fits others = (
  λ h. let less = ltb-true (a * 2 ^ 64 + s) (b * 2 ^ 64 + t) h in elim (eqb_tells a b) [
    | inl same ↦ let equal : a ≡ b = same.1 in
        ap (λ (r : Bool). nat_lt a b || r) (ap (λ (p : Bool). p && nat_lt s t) same.0 ∙ lt-ltb s t (omega arith)) ∙ or-true (nat_lt a b)
    | inr other ↦ ap (λ (p : Bool). p || (a == b && nat_lt s t)) (lt-ltb a b (grind (arith, other.1)))
  ],
  λ h. lt-ltb (a * 2 ^ 64 + s) (b * 2 ^ 64 + t) (elim (either (nat_lt a b) (a == b && nat_lt s t) h) [
    | inl less ↦ let lt = ltb-true a b less in omega arith
    | inr both ↦ let parts = both_true (a == b) (nat_lt s t) both in
        let equal = eqb-true a b parts.0 in let lt = ltb-true s t parts.1 in omega arith
  ]),
)
