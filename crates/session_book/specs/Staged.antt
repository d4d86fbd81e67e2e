-- What sixteen sessions have staged.
use Rattle.std.specs.Prelude.{ℕ, ◌-◌, ◌≤◌, List, [], slice_index_or, slice_set}
use Rattle.bw_types.specs.declared.row.Row.{Row}

-- the number of a session
pub record IsSession (session : ℕ) : Type 0 where
  pub first : 1 ≤ session
  pub last : session ≤ 16

-- what the session has staged: session S's rows are the list at place S - 1
abbrev pub rows_of : List (List Row) → ℕ → List Row
rows_of staged session = slice_index_or staged (session - 1) []

-- the same with these rows staged in the session
abbrev pub with_rows : List (List Row) → ℕ → List Row → List (List Row)
with_rows staged session rows = slice_set staged (session - 1) rows
