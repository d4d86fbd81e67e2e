-- The chain of free pages of a stage.
use Rattle.std.specs.Prelude.{◌≡◌, ℕ, ◌+◌, List, [], ◌∷◌}

-- The page that is given out is the first of the chain, which is shorter by it then. Only where the chain
-- is empty is it the first number that was never given out.
abbrev pub TakesFirst : List ℕ → ℕ → List ℕ → ℕ → ℕ → Type 0
TakesFirst [] page after allotted_before allotted_after =
    (page ≡ allotted_before) × (after ≡ []) × (allotted_after ≡ allotted_before + 1)
TakesFirst (first ∷ rest) page after allotted_before allotted_after =
    (page ≡ first) × (after ≡ rest) × (allotted_after ≡ allotted_before)
