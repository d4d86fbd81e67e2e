-- Whether a value that changes by steps is ever 0.
use Rattle.std.proofs.Common.{◌≡◌, ◌≢◌, ℕ, Bool, ◌+◌, ◌^◌, ◌<◌, ◌≤◌, ◌==◌, ◌&&◌, ◌↔◌, not, true, nat_le, cond, IsTrue, List, [], ◌∷◌, sym, ◌∙◌, ap, arith, inl, inr}
use Rattle.std.proofs.lemmas.Bool.{and_from, and_parts, cases_lt, eq-eqb, false≢true, le-leb, le-ltb, leb-true, lt-ltb, ne_eqb, not_from_false, not_from_true}
use Rattle.bw_types.specs.declared.point.Point.{Point}
use Rattle.mvsb_tree.specs.Stands.{has_begun}
use Rattle.key_check.specs.KeyTrees.{IsRooted, never_zero}
use Rattle.key_check.specs.Steps.{AscendFrom, step_value}
use Rattle.key_check.specs.declared.step.Step.{Step}
use Rattle.key_check.proofs.Ascending.{not_yet}

-- The value is not 0 at any version from this one on.
abbrev NotZero : ℕ → ℕ → List Step → Type 0
NotZero from value steps = (v : ℕ) → from ≤ v → v < 2 ^ 32 → step_value value steps v ≢ 0

not_zero : (n : ℕ) → not (n == 0) ≡ true → n ≢ 0
not_zero n h e = false≢true (sym (not_from_true (n == 0) (eq-eqb n 0 e)) ∙ h)

is_some : (n : ℕ) → n ≢ 0 → not (n == 0) ≡ true
is_some n h = not_from_false (n == 0) (ne_eqb n 0 h)

-- Before a later step the value is the one before it.
stays : (low v value : ℕ) (s : Step) (steps : List Step) → v < s.version → AscendFrom low (s ∷ steps) (2 ^ 32) → step_value value (s ∷ steps) v ≡ value
stays low v value s steps before a = not_yet s.version (2 ^ 32) value v (s ∷ steps) before (omega arith, a.1, a.2)

goes : (v value : ℕ) (s : Step) (steps : List Step) → s.version ≤ v → step_value value (s ∷ steps) v ≡ step_value s.value steps v
goes v value s steps begun = ap (λ (b : Bool). step_value (cond b s.value value) steps v) (le-leb s.version v begun)

pub never : (from low value : ℕ) (steps : List Step) → AscendFrom low steps (2 ^ 32) → never_zero from value steps ≡ true → NotZero from value steps
never from low value [] a h v k below = not_zero value h
never from low value (s ∷ steps) a h v k below = elim (cases_lt from s.version) [
  | inl later ↦
      let parts = and_parts (not (value == 0)) (never_zero s.version s.value steps)
      (sym (ap (λ (b : Bool). cond b (not (value == 0) && never_zero s.version s.value steps) (never_zero from s.value steps)) (lt-ltb from s.version later)) ∙ h) in
      elim (cases_lt v s.version) [
        | inl before ↦ λ e. not_zero value parts.0 (sym (stays low v value s steps before a) ∙ e)
        | inr begun ↦ λ e. never s.version (s.version + 1) s.value steps a.2 parts.1 v begun below (sym (goes v value s steps begun) ∙ e)
      ]
  | inr early ↦ λ e. never from (s.version + 1) s.value steps a.2
      (sym (ap (λ (b : Bool). cond b (not (value == 0) && never_zero s.version s.value steps) (never_zero from s.value steps)) (le-ltb from s.version early)) ∙ h)
      v k below (sym (goes v value s steps (omega (arith, early, k))) ∙ e)
]

pub is_never : (from low value : ℕ) (steps : List Step) → from < 2 ^ 32 → AscendFrom low steps (2 ^ 32) → NotZero from value steps → never_zero from value steps ≡ true
is_never from low value [] fits a each = is_some value (each from (omega arith) fits)
is_never from low value (s ∷ steps) fits a each = elim (cases_lt from s.version) [
  | inl later ↦
      ap (λ (b : Bool). cond b (not (value == 0) && never_zero s.version s.value steps) (never_zero from s.value steps)) (lt-ltb from s.version later)
      ∙ and_from (not (value == 0)) (never_zero s.version s.value steps)
      (is_some value (λ e. each from (omega arith) fits (stays low from value s steps later a ∙ e)))
      (is_never s.version (s.version + 1) s.value steps a.1 a.2 (λ v k below e. each v (omega (arith, later, k)) below (goes v value s steps k ∙ e)))
  | inr early ↦
      ap (λ (b : Bool). cond b (not (value == 0) && never_zero s.version s.value steps) (never_zero from s.value steps)) (le-ltb from s.version early)
      ∙ is_never from (s.version + 1) s.value steps fits a.2 (λ v k below e. each v k below (goes v value s steps (omega (arith, early, k)) ∙ e))
]

-- The points have begun exactly from the first version on.
pub rooted_is : (first : ℕ) (steps : List Step) (points : List Point) → first < 2 ^ 32 → AscendFrom 0 steps (2 ^ 32) → ((v : ℕ) → has_begun points v ≡ nat_le first v)
    → IsTrue (never_zero first 0 steps) ↔ IsRooted steps points
rooted_is first steps points fits a begun = (
  λ h v below at. never first 0 0 steps a h v (leb-true first v (sym (begun v) ∙ at)) below,
  λ each. is_never first 0 0 steps fits a (λ v k below. each v below (begun v ∙ le-leb first v k)),
)
