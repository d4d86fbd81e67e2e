-- Events that are numbered as those of a history.
use Rattle.std.specs.Prelude.{◌≡◌, ℕ, ◌+◌, ◌≤◌, List, [], ◌∷◌, map}
use Rattle.bw_types.specs.Lives.{Numbered}
use Rattle.page_warehouse.specs.Events.{numbered_in}
use Rattle.page_warehouse.specs.declared.event.Event.{Event}

-- The event numbers go on from `event` without a gap. The versions go on from `version`, never fall, and none is above the last.
abbrev pub GoOn : ℕ → ℕ → ℕ → List Numbered → Type 0
GoOn last event version [] = Unit {0}
GoOn last event version (n ∷ ns) = (n.event ≡ event) × (version ≤ n.version) × (n.version ≤ last) × GoOn last (event + 1) n.version ns

-- the adds and withdrawals in order of their event numbers, as those of a history
abbrev pub AreNumbered : ℕ → List Event → Type 0
AreNumbered last events = GoOn last 0 1 (map numbered_in events)
