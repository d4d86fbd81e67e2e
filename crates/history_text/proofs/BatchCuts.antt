-- The rows of the batches that events are cut into.
use Rattle.std.proofs.Common.{◌≡◌, ℕ, suc, ◌+◌, List, ◌++◌, take, drop, map, ap, ◌∙◌}
use Rattle.bw_types.specs.History.{History, last_version}
use Rattle.bw_types.specs.declared.params.Params.{Params}
use Rattle.page_warehouse.proofs.CutByVersion.{batches_are, next_batch}
use Rattle.page_warehouse.specs.Batches.{batches_from, count_of}
use Rattle.page_warehouse.specs.Events.{AreEventsOf, change_in}
use Rattle.page_warehouse.specs.declared.event.Event.{Event}
use Rattle.history_text.specs.Rows.{batch_text, rows_of}

-- the rows of the next batch, and those of the later ones
pub rows_step : (p : Params) (v n m k : ℕ) (batch rest events : List Event) → n ≡ suc m → k ≡ count_of v events → batch ≡ take k events → rest ≡ drop k events
    → rows_of p (batches_from v n events) ≡ batch_text p (map change_in batch) ++ rows_of p (batches_from (v + 1) m rest)
rows_step p v n m k batch rest events more size front back = ap (rows_of p) (next_batch v n m k batch rest events more size front back)

-- all of them are those of the history whose events these are
pub rows_are : (p : Params) (h : History) (last : ℕ) (events : List Event) → AreEventsOf events h → last ≡ last_version h
    → rows_of p (batches_from 1 last events) ≡ rows_of p h
rows_are p h last events are e = ap (λ (n : ℕ). rows_of p (batches_from 1 n events)) e ∙ ap (rows_of p) (batches_are h 1 0 events are)
