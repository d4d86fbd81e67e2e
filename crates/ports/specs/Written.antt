-- What was written, where it may be a part alone.
use Rattle.std.specs.Prelude.{◌≡◌, ℕ, List, ◌++◌}

-- From before to after a part of the whole text was written, its front.
pub record WritesPart (before after whole : List ℕ) : Type 0 where
  pub out : List ℕ
  pub rest : List ℕ
  pub wrote : after ≡ before ++ out
  pub part : whole ≡ out ++ rest

-- From before to after something was written.
pub record WritesMore (before after : List ℕ) : Type 0 where
  pub more : List ℕ
  pub wrote : after ≡ before ++ more
