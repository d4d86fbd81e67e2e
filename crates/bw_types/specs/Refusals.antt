-- The first refusal of a staged batch on a history.
use Rattle.std.specs.Prelude.{ℕ, ◌+◌, Bool, ◌&&◌, ◌==◌, nat_lt, nat_le, not, List, [], ◌∷◌, ◌++◌, length, Option, None, Some, if◌then◌else◌}
use Rattle.std.specs.List.{list_any, sum_by}
use Rattle.std.specs.Option.{option_or, option_map}
use Rattle.bw_types.specs.History.{History, flat, flat_row, changes, event_count, adds, live_of}
use Rattle.bw_types.specs.Mass.{mass, mass_limit}
use Rattle.bw_types.specs.declared.params.Params.{Params}
use Rattle.bw_types.specs.declared.object.Object.{Object}
use Rattle.bw_types.specs.declared.change.Change.{Change}
use Rattle.bw_types.specs.declared.change.Change.TheVariants as change
use Rattle.bw_types.specs.declared.row.Row.{Row}
use Rattle.bw_types.specs.declared.row.Row.TheVariants as row
use Rattle.bw_types.specs.declared.refusal.Refusal.{Refusal}
use Rattle.bw_types.specs.declared.refusal.Reason.{Reason}
use Rattle.bw_types.specs.declared.refusal.Reason.TheVariants.{Used, Unknown, Fresh, Gone, Mass, Events}

-- an object with this id was added
abbrev pub was_added : ℕ → List Change → Bool
was_added id cs = list_any (adds id) cs

-- an object with this id is live after these changes
abbrev pub is_live : ℕ → List Change → Bool
is_live id cs = list_any (λ o. o.id == id) (live_of cs)

-- the mass that a change adds
abbrev pub added_mass : Params → Change → ℕ
added_mass params (change.Add o) = mass params o
added_mass params (change.Withdraw id) = 0

-- the masses of all objects that these changes add
abbrev pub total_mass : Params → List Change → ℕ
total_mass params cs = sum_by (added_mass params) cs

-- why an add of the object is refused for its mass, after these changes
abbrev pub mass_refusal : Params → List Change → Object → Option Reason
mass_refusal params cs o = if nat_le mass_limit (total_mass params cs + mass params o) then Some Mass else None

-- why a withdrawal of the id is refused after the changes of the history and those of earlier rows of its batch
abbrev pub withdrawal_refusal : List Change → List Change → ℕ → Option Reason
withdrawal_refusal past batch id =
    if is_live id (past ++ batch) && was_added id batch then Some Fresh
    else (if not (was_added id (past ++ batch)) then Some Unknown
    else (if not (is_live id (past ++ batch)) then Some Gone else None))

-- why a row is refused after the changes of the history and those of earlier rows of its batch
abbrev pub row_refusal : Params → List Change → List Change → Row → Option Reason
row_refusal params past batch (row.Add o) =
    if is_live o.id (past ++ batch) then Some Used else mass_refusal params (past ++ batch) o
row_refusal params past batch (row.Withdraw id) = withdrawal_refusal past batch id
row_refusal params past batch (row.Move o) = option_or (withdrawal_refusal past batch o.id) (mass_refusal params (past ++ batch) o)

-- the numbers of the reasons
abbrev pub reason_number : Reason → ℕ
reason_number Used = 1
reason_number Unknown = 2
reason_number Fresh = 3
reason_number Gone = 4
reason_number Mass = 5
reason_number Events = 6

-- a refusal at this place
abbrev pub refused_at : ℕ → Reason → Refusal
refused_at place reason = record { place = place; reason = reason }

-- the first of the rows that is refused, the first of them being at this place
abbrev pub first_refused_row : Params → List Change → List Change → ℕ → List Row → Option Refusal
first_refused_row params past batch place [] = None
first_refused_row params past batch place (r ∷ rows) =
    option_or
    (option_map (refused_at place) (row_refusal params past batch r))
    (first_refused_row params past (batch ++ flat_row r) (place + 1) rows)

-- the first refusal of a batch of rows on a history: its events first, and then its rows from place 1 on
abbrev pub first_refusal : Params → History → List Row → Option Refusal
first_refusal params h rows =
    if nat_lt params.events (event_count h + length (flat rows) + 1)
    then Some (refused_at 0 Events)
    else first_refused_row params (changes h) [] 1 rows
