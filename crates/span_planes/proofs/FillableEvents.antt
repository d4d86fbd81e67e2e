-- The trees take the events of a history that a warehouse holds.
use Rattle.std.proofs.Common.{ℕ, ◌<◌, ◌≤◌, ◌^◌, List, length, arith}
use Rattle.std.proofs.lemmas.List.Sorted.{All-permutation}
use Rattle.std.specs.List.{All}
use Rattle.bw_types.specs.Fits.{IsInRange}
use Rattle.bw_types.specs.History.{History, event_count}
use Rattle.bw_types.specs.declared.params.Params.{Params}
use Rattle.history_laws.specs.Entries.{history_entries}
use Rattle.history_laws.specs.Bounds.{LawfulHasRoom}
use Rattle.page_warehouse.specs.declared.event.Event.{Event}
use Rattle.corner_weights.specs.PlaneSums.{EnteredFits}
use Rattle.span_planes.specs.Filled.{CanFill, entries_in, entry_of}
use Rattle.span_planes.specs.Writing.{AreAllOf}
use Rattle.span_planes.proofs.EventEntries.{entries_permuted}
use Rattle.span_planes.proofs.FittingEntries.{history_fits}
use Rattle.span_planes.proofs.InTurn.{all_of_map, event_number, versions_low}

-- a lawful history in range has few events
pub few_events : LawfulHasRoom → (params : Params) → IsInRange params → (events : List Event) (last : ℕ) (h : History) → AreAllOf params events last h → event_count h ≤ 2 ^ 28
few_events rooms params r events last h all =
    let room = (rooms params h all.lawful).events in
    let most = r.events in
    omega (arith, room, most)

pub few_rows : LawfulHasRoom → (params : Params) → IsInRange params → (events : List Event) (last : ℕ) (h : History) → AreAllOf params events last h → length events < 2 ^ 32
few_rows rooms params r events last h all =
    let few = few_events rooms params r events last h all in
    let many = event_number events h all.all in
    omega (arith, few, many)

pub all_fill : LawfulHasRoom → (params : Params) → IsInRange params → (events : List Event) (last : ℕ) (h : History) → AreAllOf params events last h → All (CanFill params) events
all_fill rooms params r events last h all =
    let few = few_events rooms params r events last h all in
    let fits : All (λ (e : Event). EnteredFits params (entry_of e)) events =
    all_of_map (EnteredFits params) entry_of events
    (All-permutation (EnteredFits params) (history_entries h) (entries_in events) (entries_permuted h events all.by_lives) (history_fits params h all.lawful few)) in
    let low = versions_low events h all.all in
    λ k d lt. record {
      fits = (fits k d lt).0;
      number = (fits k d lt).1;
      version = let under = low k d lt in omega (arith, under, few);
    }
