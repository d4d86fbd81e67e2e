-- How the events of a history are cut into the batches of its versions.
use Rattle.std.specs.Prelude.{ℕ, zero, suc, ◌+◌, ◌==◌, List, [], ◌∷◌, map, take, drop}
use Rattle.std.specs.List.{prefix_len}
use Rattle.bw_types.specs.History.{History}
use Rattle.page_warehouse.specs.Events.{change_in}
use Rattle.page_warehouse.specs.declared.event.Event.{Event}

-- how many events from the first on are of this version
abbrev pub count_of : ℕ → List Event → ℕ
count_of version events = prefix_len (λ e. e.version == version) events

-- the batches of so many versions, from this one on
abbrev pub batches_from : ℕ → ℕ → List Event → History
batches_from version zero events = []
batches_from version (suc count) events =
    map change_in (take (count_of version events) events) ∷ batches_from (version + 1) count (drop (count_of version events) events)
