-- Tests, and what they stand for.
use Rattle.std.proofs.Common.{◌≡◌, ◌↔◌, Bool, true, false, IsTrue}

-- a test of one thing is a test of what it is the same as
pub then_for : {P Q R : Type 0} → P ↔ Q → Q ↔ R → P ↔ R
then_for f g = (λ p. g.0 (f.0 p), λ r. f.1 (g.1 r))

-- no is the right answer where something cannot be
pub never : {P : Type 0} → (P → ⊥) → IsTrue false ↔ P
never cannot = (λ h. absurd cc, λ p. absurd (cannot p))

-- a test that failed says that what it stands for does not hold
pub refused : {P K : Type 0} (b : Bool) → b ≡ false → (K → IsTrue b) → (P → K) → IsTrue false ↔ P
refused true e k p = absurd cc
refused false e k p = (λ h. absurd cc, λ s. k (p s))

-- a row whose first entry was tested: what is left is to test the rest
pub rest_left : {A B C R : Type 0} → C ↔ (A × B) → A → R ↔ B → R ↔ C
rest_left step first rest = (λ r. step.1 (first, rest.0 r), λ h. rest.1 (step.0 h).1)
