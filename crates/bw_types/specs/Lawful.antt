-- Which histories a warehouse may come to hold.
use Rattle.std.specs.Prelude.{IsTrue, ◌==◌, nat_le, List, [], ◌∷◌, ◌++◌, is_none, length, if◌then◌else◌}
use Rattle.std.specs.List.{list_all}
use Rattle.bw_types.specs.Fits.{row_fits}
use Rattle.bw_types.specs.History.{History}
use Rattle.bw_types.specs.Refusals.{first_refusal}
use Rattle.bw_types.specs.declared.params.Params.{Params}
use Rattle.bw_types.specs.declared.change.Change.{Change}
use Rattle.bw_types.specs.declared.change.Change.TheVariants as change
use Rattle.bw_types.specs.declared.row.Row.{Row}
use Rattle.bw_types.specs.declared.row.Row.TheVariants as row

-- a change as a row that stages it
abbrev pub as_row : Change → Row
as_row (change.Add o) = row.Add o
as_row (change.Withdraw id) = row.Withdraw id

-- a batch of a history as a session may have staged it: a withdrawal directly followed by an add of its id is a move
abbrev pub staged_rows : List Change → List Row
staged_rows [] = []
staged_rows (change.Add o ∷ cs) = row.Add o ∷ staged_rows cs
staged_rows (change.Withdraw id ∷ []) = row.Withdraw id ∷ []
staged_rows (change.Withdraw id ∷ change.Withdraw other ∷ cs) = row.Withdraw id ∷ staged_rows (change.Withdraw other ∷ cs)
staged_rows (change.Withdraw id ∷ change.Add o ∷ cs) = if o.id == id then row.Move o ∷ staged_rows cs else row.Withdraw id ∷ row.Add o ∷ staged_rows cs

-- the batch fits, has at most 4096 rows, a move being one, and no first refusal on the history before it
pub record IsLawfulBatch (params : Params) (h : History) (batch : List Change) : Type 0 where
  pub fits : IsTrue (list_all (row_fits params) (staged_rows batch))
  pub size : IsTrue (nat_le (length (staged_rows batch)) 4096)
  pub accepted : IsTrue (is_none (first_refusal params h (staged_rows batch)))

-- each of the batches is lawful on the history before it and the batches between
abbrev pub AreLawfulAfter : Params → History → History → Type 0
AreLawfulAfter params before [] = Unit {0}
AreLawfulAfter params before (batch ∷ batches) = IsLawfulBatch params before batch × AreLawfulAfter params (before ++ batch ∷ []) batches

-- each batch of the history is lawful on the batches before it
abbrev pub IsLawful : Params → History → Type 0
IsLawful params h = AreLawfulAfter params [] h
