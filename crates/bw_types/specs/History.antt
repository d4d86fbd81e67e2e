-- A history is a list of batches, and a batch of a history a list of adds and withdrawals.
use Rattle.std.specs.Prelude.{ℕ, ◌+◌, Bool, false, ◌==◌, List, [], ◌∷◌, length, take, if◌then◌else◌}
use Rattle.std.specs.List.{flat_map, list_any}
use Rattle.bw_types.specs.declared.object.Object.{Object}
use Rattle.bw_types.specs.declared.change.Change.{Change}
use Rattle.bw_types.specs.declared.change.Change.TheVariants as change
use Rattle.bw_types.specs.declared.row.Row.{Row}
use Rattle.bw_types.specs.declared.row.Row.TheVariants as row

abbrev pub History : Type 0
History = List (List Change)

-- a staged row as a history has it: a move is a withdrawal and then an add
abbrev pub flat_row : Row → List Change
flat_row (row.Add o) = change.Add o ∷ []
flat_row (row.Withdraw id) = change.Withdraw id ∷ []
flat_row (row.Move o) = change.Withdraw o.id ∷ change.Add o ∷ []

-- a staged batch as a history has it
abbrev pub flat : List Row → List Change
flat rows = flat_map flat_row rows

-- all adds and withdrawals in their order: the place of one in this list is its event number
abbrev pub changes : History → List Change
changes h = flat_map (λ batch. batch) h

-- the number of the last version: version 0 is empty, and each batch makes one
abbrev pub last_version : History → ℕ
last_version h = length h

-- each add, each withdrawal and each batch is an event
abbrev pub event_count : History → ℕ
event_count h = length (changes h) + last_version h

-- the change adds an object with this id
abbrev pub adds : ℕ → Change → Bool
adds id (change.Add o) = o.id == id
adds id (change.Withdraw other) = false

-- the change withdraws this id
abbrev pub withdraws : ℕ → Change → Bool
withdraws id (change.Add o) = false
withdraws id (change.Withdraw other) = other == id

-- the objects that were added and not withdrawn afterwards, in order of adding
abbrev pub live_of : List Change → List Object
live_of [] = []
live_of (change.Add o ∷ later) = if list_any (withdraws o.id) later then live_of later else o ∷ live_of later
live_of (change.Withdraw id ∷ later) = live_of later

-- the objects live at a version
abbrev pub live : History → ℕ → List Object
live h version = live_of (changes (take version h))
