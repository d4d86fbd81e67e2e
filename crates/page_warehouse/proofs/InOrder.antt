-- The events of lives, in order of event number, are the changes of the history.
use Rattle.std.proofs.Common.{◌≡◌, ℕ, zero, suc, ◌==◌, true, false, List, [], ◌∷◌, ◌++◌, get_or, map, refl, ◌∙◌, ap, subst, arith, if◌then◌else◌, IsPermutation}
use Rattle.std.proofs.lemmas.List.{length-map, map-append}
use Rattle.std.proofs.lemmas.List.Sorted.{IsNonDecreasingBy-from_default, IsNonDecreasingBy-short, IsPermutation-map}
use Rattle.std.specs.List.{flat_map}
use Rattle.std.specs.List.Sorted.{IsNonDecreasingBy}
use Rattle.bw_types.specs.History.{History}
use Rattle.bw_types.specs.Lawful.{IsLawful}
use Rattle.bw_types.specs.Lives.{Numbered, lives}
use Rattle.bw_types.specs.declared.dated.Dated.{Dated}
use Rattle.bw_types.specs.declared.params.Params.{Params}
use Rattle.history_laws.specs.Telling.{LivesNameChanges}
use Rattle.history_laws.specs.Told.{add_in, end_in, named_by}
use Rattle.page_warehouse.specs.Events.{AreEventsOf, events_of, events_of_lives, numbered_in}
use Rattle.page_warehouse.specs.declared.event.Event.{Event}

-- the events of a life are the changes that it names
one_named : (d : Dated) → map numbered_in (events_of d) ≡ named_by d
one_named d = elim (d.withdrawn == 0) as (λ b. map numbered_in (record { event = d.add_event; version = d.added; add = true; object = d.object } ∷ (if b then [] else record { event = d.withdraw_event; version = d.withdrawn; add = false; object = d.object } ∷ [])) ≡ add_in d ∷ (if b then [] else end_in d ∷ [])) [ true ↦ refl | false ↦ refl ]

pub all_named : (ds : List Dated) → map numbered_in (events_of_lives ds) ≡ flat_map named_by ds
all_named [] = refl
all_named (d ∷ ds) =
    map-append numbered_in (events_of d) (events_of_lives ds)
    ∙ (ap (λ (ns : List Numbered). ns ++ map numbered_in (events_of_lives ds)) (one_named d) ∙ ap (λ (ns : List Numbered). named_by d ++ ns) (all_named ds))

event_at : (es : List Event) (i : ℕ) (e : Event) → (get_or (map numbered_in es) i (numbered_in e)).event ≡ (get_or es i e).event
event_at [] i e = refl
event_at (x ∷ es) zero e = refl
event_at (x ∷ es) (suc i) e = event_at es i e

pub numbered_up : (es : List Event) → IsNonDecreasingBy (λ e. e.event) es → IsNonDecreasingBy (λ (n : Numbered). n.event) (map numbered_in es)
numbered_up [] up = IsNonDecreasingBy-short (λ (n : Numbered). n.event) [] (omega arith)
numbered_up (x ∷ es) up = IsNonDecreasingBy-from_default (λ (n : Numbered). n.event) (map numbered_in (x ∷ es)) (numbered_in x) (λ i j le lt.
    omega (arith, event_at (x ∷ es) i x, event_at (x ∷ es) j x, up i j x le (omega (arith, lt, length-map (x ∷ es) numbered_in))))

pub are_events : LivesNameChanges → (params : Params) (h : History) (kept : List Dated) (events sorted : List Event) → IsLawful params h → IsPermutation kept (lives h)
    → events ≡ events_of_lives kept → IsPermutation events sorted → IsNonDecreasingBy (λ e. e.event) sorted → AreEventsOf sorted h
are_events named params h kept events sorted lawful all are same up =
    let moved : IsPermutation (map numbered_in (events_of_lives kept)) (map numbered_in sorted) =
    IsPermutation-map numbered_in (events_of_lives kept) sorted (subst (λ (es : List Event). IsPermutation es sorted) are same) in
    named params h kept (map numbered_in sorted) lawful all (subst (λ (ns : List Numbered). IsPermutation ns (map numbered_in sorted)) (all_named kept) moved) (numbered_up sorted up)
