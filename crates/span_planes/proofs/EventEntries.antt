-- The events of a history are its entries.
use Rattle.std.proofs.Common.{◌≡◌, ◌==◌, true, false, List, [], ◌∷◌, ◌++◌, map, refl, ◌∙◌, ap, subst, if◌then◌else◌, IsPermutation}
use Rattle.std.proofs.lemmas.List.{map-append}
use Rattle.std.proofs.lemmas.List.Sorted.{IsPermutation-map}
use Rattle.bw_types.specs.History.{History}
use Rattle.bw_types.specs.Lives.{lives}
use Rattle.bw_types.specs.declared.dated.Dated.{Dated}
use Rattle.history_laws.specs.Entries.{begun_entry, ended_entry, entries_of, history_entries, life_entries}
use Rattle.page_warehouse.specs.Events.{events_of, events_of_lives}
use Rattle.page_warehouse.specs.declared.event.Event.{Event}
use Rattle.corner_weights.specs.PlaneSums.{Entered}
use Rattle.span_planes.specs.Filled.{entries_in, entry_of}

one_life : (d : Dated) → map entry_of (events_of d) ≡ life_entries d
one_life d =
    elim (d.withdrawn == 0) as (λ b. map entry_of (record { event = d.add_event; version = d.added; add = true; object = d.object } ∷ (if b then [] else record { event = d.withdraw_event; version = d.withdrawn; add = false; object = d.object } ∷ []))
    ≡ (if b then begun_entry d ∷ [] else begun_entry d ∷ ended_entry d ∷ [])) [ true ↦ refl | false ↦ refl ]

all_lives : (ds : List Dated) → map entry_of (events_of_lives ds) ≡ entries_of ds
all_lives [] = refl
all_lives (d ∷ ds) =
    map-append entry_of (events_of d) (events_of_lives ds)
    ∙ (ap (λ (es : List Entered). es ++ map entry_of (events_of_lives ds)) (one_life d) ∙ ap (λ (es : List Entered). life_entries d ++ es) (all_lives ds))

pub entries_permuted : (h : History) (events : List Event) → IsPermutation (events_of_lives (lives h)) events → IsPermutation (history_entries h) (entries_in events)
entries_permuted h events moved =
    subst (λ (es : List Entered). IsPermutation es (entries_in events)) (all_lives (lives h)) (IsPermutation-map entry_of (events_of_lives (lives h)) events moved)
