-- What printing says of a sink and of the bytes that are gathered for it.
use Rattle.std.specs.Prelude.{◌≡◌, ℕ, Bool, IsTrue, List, ◌++◌, Result, MatchResult}
use Rattle.ports.specs.Written.{WritesPart}
use Rattle.ports.specs.Count.{Rose}

-- what the sink tells, and the bytes that are gathered behind what it has written
pub record Standing : Type 0 where
  pub tells : Bool
  pub written : List ℕ
  pub faults : ℕ
  pub gathered : List ℕ

abbrev pub standing : Bool → List ℕ → ℕ → List ℕ → Standing
standing tells written faults gathered = record { tells = tells; written = written; faults = faults; gathered = gathered }

-- These bytes came behind those that were gathered, and some from the front on were put.
pub record Gave (old new : Standing) (bytes : List ℕ) : Type 0 where
  pub put : List ℕ
  pub tells : IsTrue old.tells → IsTrue new.tells
  pub written : IsTrue old.tells → new.written ≡ old.written ++ put
  pub left : put ++ new.gathered ≡ old.gathered ++ bytes
  pub faults : new.faults ≡ old.faults

-- The sink failed, and a front of the bytes that were gathered and of these was put.
pub record Stopped (old new : Standing) (bytes : List ℕ) : Type 0 where
  pub part : IsTrue old.tells → IsTrue new.tells → WritesPart old.written new.written (old.gathered ++ bytes)
  pub faults : Rose old.faults new.faults

-- The call gave these bytes, or the sink failed.
abbrev pub Gives : {T E : Type 0} → Result T E → Standing → Standing → List ℕ → Type 0
Gives result old new bytes = MatchResult result (λ _. Gave old new bytes) (λ _. Stopped old new bytes)
