-- How lists of events are cut: behind a version, and into batches by size.
use Rattle.std.specs.Prelude.{ℕ, zero, suc, ◌+◌, ◌-◌, nat_le, List, [], ◌∷◌, ◌++◌, map, take, drop}
use Rattle.std.specs.List.{prefix_len}
use Rattle.bw_types.specs.History.{History}
use Rattle.page_warehouse.specs.Batches.{batches_from}
use Rattle.page_warehouse.specs.Events.{change_in}
use Rattle.page_warehouse.specs.declared.event.Event.{Event}
use Rattle.compact_store.specs.Kept.{most_adds}

-- how many events from the first on are of versions up to this one
abbrev pub count_to : ℕ → List Event → ℕ
count_to version events = prefix_len (λ e. nat_le e.version version) events

-- so many batches, each of the next 4096 events
abbrev pub batches_by_size : ℕ → List Event → History
batches_by_size zero events = []
batches_by_size (suc count) events = map change_in (take most_adds events) ∷ batches_by_size count (drop most_adds events)

-- the batches up to a version, of the adds by size, and then those up to the last one, of the later events by version
abbrev pub batches_of : ℕ → ℕ → List Event → List Event → History
batches_of version last adds later = batches_by_size version adds ++ batches_from (version + 1) (last - version) later
