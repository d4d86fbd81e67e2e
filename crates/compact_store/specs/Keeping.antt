-- What is gathered of a history that is kept from a version on.
use Rattle.std.specs.Prelude.{◌≡◌, ℕ, ◌+◌, ◌*◌, ◌^◌, ◌<◌, ◌≤◌, List, length, map}
use Rattle.bw_types.specs.History.{History, live}
use Rattle.bw_types.specs.declared.change.Change.TheVariants.{Add}
use Rattle.page_warehouse.specs.Events.{AreEventsOf, change_in}
use Rattle.page_warehouse.specs.declared.event.Event.{Event}
use Rattle.compact_store.specs.Kept.{most_adds}

-- These are adds of the objects that are live at the version, and all events of the history.
pub record IsKept (h : History) (version : ℕ) (adds events : List Event) : Type 0 where
  pub adds_are : map change_in adds ≡ map Add (live h version)
  pub events_are : AreEventsOf events h

-- The adds have room in the batches up to the version, and 32 bits count them and the events together.
abbrev pub HaveRoom : ℕ → List Event → List Event → Type 0
HaveRoom version adds events = (length adds ≤ most_adds * version) × (length adds + length events < 2 ^ 32)
