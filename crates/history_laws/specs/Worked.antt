-- Whole examples, computed from the definitions.
use Rattle.std.specs.Prelude.{◌≡◌, List, [], ◌∷◌}
use Rattle.bw_types.specs.History.{History}
use Rattle.bw_types.specs.Lawful.{IsLawful}
use Rattle.bw_types.specs.Lives.{lives}
use Rattle.bw_types.specs.Worked.{history, line, lived, span}
use Rattle.bw_types.specs.declared.dated.Dated.{Dated}
use Rattle.bw_types.specs.declared.row.Row.TheVariants.{Add, Withdraw, Move}
use Rattle.history_laws.specs.Told.{told}

-- two objects are added, the second of them is moved, then a version has no changes, and it is withdrawn and added again
abbrev pub five_versions : History
five_versions = history
    ((Add (span 2 3 4 1) ∷ Add (span 1 0 9 5) ∷ []) ∷ (Move (span 1 20 29 5) ∷ []) ∷ [] ∷ (Withdraw 1 ∷ []) ∷ (Add (span 1 0 9 7) ∷ []) ∷ [])

-- its object table, ascending by id and then by life
abbrev pub table : List Dated
table =
    lived (span 1 0 9 5) 1 1 1 2 2
    ∷ lived (span 1 20 29 5) 2 2 3 4 4
    ∷ lived (span 1 0 9 7) 3 5 5 0 0
    ∷ lived (span 2 3 4 1) 1 1 0 0 0
    ∷ []

-- the table tells the history, which is a lawful one
abbrev pub TableIsTold : Type 0
TableIsTold = (told table 5 ≡ five_versions) × IsLawful line five_versions

-- in the order of adding the rows tell the same
abbrev pub OrderIsNoMatter : Type 0
OrderIsNoMatter =
    (lives five_versions ≡ lived (span 2 3 4 1) 1 1 0 0 0 ∷ lived (span 1 0 9 5) 1 1 1 2 2 ∷ lived (span 1 20 29 5) 2 2 3 4 4 ∷ lived (span 1 0 9 7) 3 5 5 0 0 ∷ [])
    × (told (lives five_versions) 5 ≡ five_versions)

-- as many batches are told as there are versions: those up to an earlier one, and empty ones past the last change
abbrev pub VersionsAreCut : Type 0
VersionsAreCut =
    (told table 0 ≡ [])
    × (told table 2 ≡ history ((Add (span 2 3 4 1) ∷ Add (span 1 0 9 5) ∷ []) ∷ (Move (span 1 20 29 5) ∷ []) ∷ []))
    × (told (lived (span 1 0 9 5) 1 1 0 0 0 ∷ []) 3 ≡ history ((Add (span 1 0 9 5) ∷ []) ∷ [] ∷ [] ∷ []))
    × (told [] 2 ≡ [] ∷ [] ∷ [])
