-- Laws of lawful histories.
use Rattle.std.specs.Prelude.{◌≡◌, ◌↔◌, ◌≤◌, IsTrue, List, [], ◌∷◌, ◌++◌, length, map, None}
use Rattle.std.specs.List.{list_all}
use Rattle.bw_types.specs.Fits.{row_fits}
use Rattle.bw_types.specs.History.{History, flat}
use Rattle.bw_types.specs.Lawful.{IsLawful, IsLawfulBatch, as_row, staged_rows}
use Rattle.bw_types.specs.Refusals.{first_refusal}
use Rattle.bw_types.specs.declared.params.Params.{Params}
use Rattle.bw_types.specs.declared.change.Change.{Change}
use Rattle.bw_types.specs.declared.row.Row.{Row}

-- rows that fit, at most 4096, without a refusal are a lawful batch
abbrev pub AcceptedRowsAreLawful : Type 0
AcceptedRowsAreLawful = (params : Params) (h : History) (rows : List Row) → IsTrue (list_all (row_fits params) rows) → length rows ≤ 4096
    → first_refusal params h rows ≡ None → IsLawfulBatch params h (flat rows)

-- a lawful batch may be put last
abbrev pub LawfulGrows : Type 0
LawfulGrows = (params : Params) (h : History) (batch : List Change) → IsLawful params h → IsLawfulBatch params h batch → IsLawful params (h ++ batch ∷ [])

-- each front of a lawful history is lawful
abbrev pub LawfulBegins : Type 0
LawfulBegins = (params : Params) (h later : History) → IsLawful params (h ++ later) → IsLawful params h

-- no change is refused exactly where no row that stages them is
abbrev pub StagingChangesNoRefusal : Type 0
StagingChangesNoRefusal = (params : Params) (h : History) (batch : List Change)
    → (first_refusal params h (map as_row batch) ≡ None) ↔ (first_refusal params h (staged_rows batch) ≡ None)
