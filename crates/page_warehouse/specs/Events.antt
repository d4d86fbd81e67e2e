-- The adds and withdrawals of a history, one by one.
use Rattle.std.specs.Prelude.{◌≡◌, ◌==◌, if◌then◌else◌, true, false, List, [], ◌∷◌, map}
use Rattle.std.specs.List.{flat_map}
use Rattle.bw_types.specs.History.{History}
use Rattle.bw_types.specs.Lives.{Numbered, numbered}
use Rattle.bw_types.specs.declared.change.Change.{Change}
use Rattle.bw_types.specs.declared.change.Change.TheVariants as change
use Rattle.bw_types.specs.declared.dated.Dated.{Dated}
use Rattle.page_warehouse.specs.declared.event.Event.{Event}

-- the change that an event is
abbrev pub change_in : Event → Change
change_in e = if e.add then change.Add e.object else change.Withdraw e.object.id

-- the event as a history numbers its changes
abbrev pub numbered_in : Event → Numbered
numbered_in e = record { version = e.version; event = e.event; change = change_in e }

-- These are all adds and withdrawals of the history, in their order.
abbrev pub AreEventsOf : List Event → History → Type 0
AreEventsOf events h = map numbered_in events ≡ numbered h

-- the events of a life: its add, and where it has ended its withdrawal
abbrev pub events_of : Dated → List Event
events_of d =
    record { event = d.add_event; version = d.added; add = true; object = d.object }
    ∷ (if d.withdrawn == 0 then [] else record { event = d.withdraw_event; version = d.withdrawn; add = false; object = d.object } ∷ [])

-- the events of lives, one life after the other
abbrev pub events_of_lives : List Dated → List Event
events_of_lives ds = flat_map events_of ds
