-- Entries whose values are added up.
use Rattle.std.specs.Prelude.{ℕ, List, [], ◌∷◌}

-- the entries with so much more in the first, where there is one
abbrev pub raised_first : {X : Type 0} → (X → ℕ → X) → List X → ℕ → List X
raised_first raised [] more = []
raised_first raised (e ∷ entries) more = raised e more ∷ entries
