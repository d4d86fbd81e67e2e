-- The entries of a history: each life where it begins, and with the opposite sign where it ends.
use Rattle.std.specs.Prelude.{◌==◌, true, false, if◌then◌else◌, List, [], ◌∷◌}
use Rattle.std.specs.List.{flat_map}
use Rattle.bw_types.specs.History.{History}
use Rattle.bw_types.specs.Lives.{lives}
use Rattle.bw_types.specs.declared.dated.Dated.{Dated}
use Rattle.corner_weights.specs.PlaneSums.{Entered}

-- the life where it begins
abbrev pub begun_entry : Dated → Entered
begun_entry d = record { object = d.object; event = d.add_event; version = d.added; minus = false }

-- the life where it ends
abbrev pub ended_entry : Dated → Entered
ended_entry d = record { object = d.object; event = d.withdraw_event; version = d.withdrawn; minus = true }

-- the entries of a life: one, and another one where it has ended
abbrev pub life_entries : Dated → List Entered
life_entries d = if d.withdrawn == 0 then begun_entry d ∷ [] else begun_entry d ∷ ended_entry d ∷ []

-- the entries of lives
abbrev pub entries_of : List Dated → List Entered
entries_of ds = flat_map life_entries ds

-- the entries of a history
abbrev pub history_entries : History → List Entered
history_entries h = entries_of (lives h)
