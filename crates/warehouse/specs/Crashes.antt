-- What a crash may leave, over any kind of images.
use Rattle.std.specs.Prelude.{◌⊎◌, ℕ, ◌≤◌}

-- From the one list of moments to the other: whatever a crash since a time before may have left, it might have left
-- already then, or it has P.
pub record OnlyLeaves {M I : Type 0} (clock : M → ℕ) (since : M → ℕ → I → Type 0) (P : I → Type 0) (old new : M) : Type 0 where
  pub later : clock old ≤ clock new
  pub each : (t : ℕ) (x : I) → t ≤ clock old → since new t x → since old t x ⊎ P x
