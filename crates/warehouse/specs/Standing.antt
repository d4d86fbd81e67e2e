-- When a warehouse in memory stands: what is kept beside the history is true of it.
use Rattle.std.specs.Prelude.{◌≡◌, ◌<◌, ◌≤◌, true, map}
use Rattle.std.specs.List.{list_all}
use Rattle.bw_types.specs.Fits.{IsInRange}
use Rattle.bw_types.specs.History.{History, changes, event_count, last_version}
use Rattle.bw_types.specs.Mass.{mass_limit}
use Rattle.bw_types.specs.Refusals.{total_mass}
use Rattle.warehouse.specs.Events.{changes_of, have_lives}
use Rattle.warehouse.specs.Kept.{IsLedger, state_in}
use Rattle.warehouse.specs.ListState.{ListState}
use Rattle.warehouse.specs.declared.list_house.ListHouse.TheInside.{Inside}

-- the changes that the events of each batch stand for
abbrev pub history_in : Inside → History
history_in a = map (λ batch. changes_of a.lives.items batch.items) a.batches.items

-- what callers see
abbrev pub state_of : Inside → ListState
state_of a = record { params = a.params; history = history_in a }

-- there is a life wherever the history names one, and the lives, the states of ids and the totals are those of the history
pub record IsStanding (a : Inside) : Type 0 where
  pub in_range : IsInRange a.params
  pub named : list_all (λ batch. have_lives a.lives.items batch.items) a.batches.items ≡ true
  pub events : a.events ≡ event_count (history_in a)
  pub events_fit : a.events ≤ a.params.events
  pub mass : a.mass ≡ total_mass a.params (changes (history_in a))
  pub mass_fits : a.mass < mass_limit
  pub ledger : IsLedger (history_in a) (changes (history_in a)) (last_version (history_in a)) a.lives.items (state_in a.states)
