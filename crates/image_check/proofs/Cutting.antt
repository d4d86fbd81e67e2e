-- The events that lives name, in order, are those of the history that the lives tell.
use Rattle.std.proofs.Common.{◌≡◌, ℕ, List, length, map, sym, ◌∙◌, ap, subst, IsPermutation}
use Rattle.std.specs.List.{flat_map, range_with_len}
use Rattle.std.specs.List.Sorted.{IsNonDecreasingBy}
use Rattle.std.proofs.lemmas.List.Sorted.{IsPermutation-map, IsPermutation-sym, IsPermutation-trans, length_permutation}
use Rattle.bw_types.specs.History.{History, last_version}
use Rattle.bw_types.specs.Lives.{Numbered, numbered}
use Rattle.bw_types.specs.declared.dated.Dated.{Dated}
use Rattle.bw_types.specs.declared.params.Params.{Params}
use Rattle.history_laws.specs.Telling.{LivesNameChanges}
use Rattle.history_laws.specs.Told.{batch_of, named_by}
use Rattle.history_laws.proofs.Batches.{cut_again, events_rise}
use Rattle.history_laws.proofs.InOrder.{in_order_is}
use Rattle.history_laws.proofs.Members.{among_permuted}
use Rattle.page_warehouse.specs.Events.{AreEventsOf, numbered_in}
use Rattle.page_warehouse.specs.declared.event.Event.{Event}
use Rattle.page_warehouse.proofs.InOrder.{numbered_up}
use Rattle.image_check.specs.Telling.{HasLives, IsToldBy}

moved_named : (lives : List Dated) (told sorted : List Event) → map numbered_in told ≡ flat_map named_by lives → IsPermutation told sorted → IsPermutation (flat_map named_by lives) (map numbered_in sorted)
moved_named lives told sorted are all = subst (λ (ns : List Numbered). IsPermutation ns (map numbered_in sorted)) are (IsPermutation-map numbered_in told sorted all)

-- in order they are the changes of a history that they tell
pub told_are : (lives : List Dated) (events sorted : List Event) (last : ℕ) (h : History) → map numbered_in events ≡ flat_map named_by lives → IsPermutation events sorted → IsNonDecreasingBy (λ e. e.event) sorted
    → IsToldBy h lives last → map numbered_in sorted ≡ numbered h
told_are lives events sorted last h are all up by =
    let moved = moved_named lives events sorted are all in
    let whole : IsPermutation (numbered h) (map numbered_in sorted) =
    IsPermutation-trans (numbered h) (flat_map named_by lives) (map numbered_in sorted) (IsPermutation-sym (flat_map named_by lives) (numbered h) by.all) moved in
    in_order_is (numbered h) (map numbered_in sorted) (events_rise h) (numbered_up sorted up) (λ x a. among_permuted (numbered h) (map numbered_in sorted) x whole a) (length_permutation (numbered h) (map numbered_in sorted) whole)

-- a history by its numbered changes and its last version
one_history : (h k : History) → numbered h ≡ numbered k → last_version h ≡ last_version k → h ≡ k
one_history h k same last =
    sym (cut_again h)
    ∙ (ap (λ (ns : List Numbered). map (batch_of ns) (range_with_len 1 (length h))) same
    ∙ (ap (λ (n : ℕ). map (batch_of (numbered k)) (range_with_len 1 n)) last ∙ cut_again k))

-- the history that the events make is the one that the lives tell
pub told_history : (lives : List Dated) (events sorted : List Event) (last : ℕ) → map numbered_in events ≡ flat_map named_by lives → IsPermutation events sorted → IsNonDecreasingBy (λ e. e.event) sorted
    → (h : History) × (AreEventsOf sorted h) × (last_version h ≡ last) → (h : History) × IsToldBy h lives last × AreEventsOf sorted h × ((other : History) → IsToldBy other lives last → other ≡ h)
told_history lives events sorted last are all up made = (
  made.0,
  record { all = subst (λ (ns : List Numbered). IsPermutation (flat_map named_by lives) ns) made.1 (moved_named lives events sorted are all); version = made.2 },
  made.1,
  λ other by. one_history other made.0 (sym (told_are lives events sorted last other are all up by) ∙ made.1) (by.version ∙ sym made.2),
)

-- the lives of a lawful history tell it
pub lawful_events : LivesNameChanges → (params : Params) (h : History) (lives : List Dated) (events sorted : List Event) (last : ℕ) → map numbered_in events ≡ flat_map named_by lives
    → IsPermutation events sorted → IsNonDecreasingBy (λ e. e.event) sorted → HasLives params h lives last → AreEventsOf sorted h
lawful_events named params h lives events sorted last are all up has = named params h lives (map numbered_in sorted) has.lawful has.all (moved_named lives events sorted are all) (numbered_up sorted up)
