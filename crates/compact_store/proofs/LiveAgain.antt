-- What is live where the live objects are added again in place of the changes that left them.
use Rattle.std.proofs.Common.{◌≡◌, ℕ, ◌≤◌, true, false, ◌||◌, ◌==◌, not, List, [], ◌∷◌, ◌++◌, length, map, refl, sym, ◌∙◌, ap, arith, append_assoc, inl, inr, if◌then◌else◌}
use Rattle.std.proofs.lemmas.Bool.{or_cases, or_left, or_right}
use Rattle.std.proofs.lemmas.List.{append-nil, length-append, map-append}
use Rattle.std.proofs.lemmas.List.Folds.{list_any-append}
use Rattle.std.proofs.lemmas.List.Sums.{sum_by-append, sum_by-cons}
use Rattle.std.specs.List.{filter, list_any}
use Rattle.bw_types.specs.History.{live_of, withdraws}
use Rattle.bw_types.specs.Refusals.{added_mass, is_live, total_mass, was_added}
use Rattle.bw_types.specs.declared.change.Change.{Change}
use Rattle.bw_types.specs.declared.change.Change.TheVariants as change
use Rattle.bw_types.specs.declared.object.Object.{Object}
use Rattle.bw_types.specs.declared.params.Params.{Params}

-- adds withdraw nothing
none_withdrawn : (id : ℕ) (objects : List Object) (later : List Change) → list_any (withdraws id) (map change.Add objects ++ later) ≡ list_any (withdraws id) later
none_withdrawn id [] later = refl
none_withdrawn id (o ∷ objects) later = none_withdrawn id objects later

-- the live objects, added again, leave the same objects live, whatever follows
pub live_again : (cs later : List Change) → live_of (map change.Add (live_of cs) ++ later) ≡ live_of (cs ++ later)
live_again [] later = refl
live_again (change.Withdraw id ∷ cs) later = live_again cs later
live_again (change.Add o ∷ cs) later =
    rw (list_any-append (withdraws o.id) cs later)
    (elim (list_any (withdraws o.id) cs) as (λ b. live_of (map change.Add (if b then live_of cs else o ∷ live_of cs) ++ later) ≡ (if b || list_any (withdraws o.id) later then live_of (cs ++ later) else o ∷ live_of (cs ++ later))) [
      | true ↦ live_again cs later
      | false ↦
          rw (none_withdrawn o.id (live_of cs) later)
          (ap (λ (os : List Object). if list_any (withdraws o.id) later then os else o ∷ os) (live_again cs later))
    ])

-- objects that are added, and nothing more, are live
pub live_of_adds : (objects : List Object) → live_of (map change.Add objects) ≡ objects
live_of_adds [] = refl
live_of_adds (o ∷ objects) =
    let none : list_any (withdraws o.id) (map change.Add objects) ≡ false =
    ap (list_any (withdraws o.id)) (sym (append-nil (map change.Add objects))) ∙ none_withdrawn o.id objects [] in
    rw none (ap (λ (os : List Object). o ∷ os) (live_of_adds objects))

-- what is live after one add more
pub live_after_add : (cs : List Change) (o : Object) → live_of (cs ++ change.Add o ∷ []) ≡ live_of cs ++ o ∷ []
live_after_add cs o =
    sym (live_again cs (change.Add o ∷ [])) ∙ (ap live_of (sym (map-append change.Add (live_of cs) (o ∷ []))) ∙ live_of_adds (live_of cs ++ o ∷ []))

-- one withdrawal after adds
adds_withdrawn : (objects : List Object) (id : ℕ) → live_of (map change.Add objects ++ change.Withdraw id ∷ []) ≡ filter (λ o. not (id == o.id)) objects
adds_withdrawn [] id = refl
adds_withdrawn (o ∷ objects) id =
    rw (none_withdrawn o.id objects (change.Withdraw id ∷ []))
    (elim (id == o.id) as (λ b. (if b || false then live_of (map change.Add objects ++ change.Withdraw id ∷ []) else o ∷ live_of (map change.Add objects ++ change.Withdraw id ∷ [])) ≡ (if not b then o ∷ filter (λ p. not (id == p.id)) objects else filter (λ p. not (id == p.id)) objects)) [
      | true ↦ adds_withdrawn objects id
      | false ↦ ap (λ (os : List Object). o ∷ os) (adds_withdrawn objects id)
    ])

-- what is live after one withdrawal more
pub live_after_withdrawal : (cs : List Change) (id : ℕ) → live_of (cs ++ change.Withdraw id ∷ []) ≡ filter (λ o. not (id == o.id)) (live_of cs)
live_after_withdrawal cs id = sym (live_again cs (change.Withdraw id ∷ [])) ∙ adds_withdrawn (live_of cs) id

-- an id that is live was added
pub live_was_added : (id : ℕ) (cs : List Change) → is_live id cs ≡ true → was_added id cs ≡ true
live_was_added id [] is = is
live_was_added id (change.Withdraw other ∷ cs) is = live_was_added id cs is
live_was_added id (change.Add o ∷ cs) is =
    elim (list_any (withdraws o.id) cs) as (λ b. list_any (λ p. p.id == id) (if b then live_of cs else o ∷ live_of cs) ≡ true → (o.id == id || was_added id cs) ≡ true) [
      | true ↦ λ e. or_right (o.id == id) (was_added id cs) (live_was_added id cs e)
      | false ↦ λ e. elim (or_cases (o.id == id) (is_live id cs) e) [
        | inl here ↦ or_left (o.id == id) (was_added id cs) here
        | inr later ↦ or_right (o.id == id) (was_added id cs) (live_was_added id cs later)
      ]
    ] is

-- these changes in place of those: whatever follows, the same objects are live, and there is no more mass and no more changes
pub record Like (params : Params) (old new : List Change) : Type 0 where
  pub live : (later : List Change) → live_of (new ++ later) ≡ live_of (old ++ later)
  pub mass : total_mass params new ≤ total_mass params old
  pub count : length new ≤ length old

-- the same changes may follow both
pub like_more : (params : Params) (old new later : List Change) → Like params old new → Like params (old ++ later) (new ++ later)
like_more params old new later like = record {
  live = λ more. ap live_of (append_assoc new later more) ∙ (like.live (later ++ more) ∙ ap live_of (sym (append_assoc old later more)));
  mass = omega (arith, like.mass, sum_by-append (added_mass params) old later, sum_by-append (added_mass params) new later);
  count = omega (arith, like.count, length-append old later, length-append new later);
}

-- the same objects are live where nothing follows
pub live_like : (params : Params) (old new : List Change) → Like params old new → live_of new ≡ live_of old
live_like params old new like = ap live_of (sym (append-nil new)) ∙ (like.live [] ∙ ap live_of (append-nil old))

-- the live objects have no more mass than all that were added
live_mass : (params : Params) (cs : List Change) → total_mass params (map change.Add (live_of cs)) ≤ total_mass params cs
live_mass params [] = omega arith
live_mass params (change.Withdraw id ∷ cs) = omega (arith, live_mass params cs, sum_by-cons (added_mass params) (change.Withdraw id) cs)
live_mass params (change.Add o ∷ cs) =
    elim (list_any (withdraws o.id) cs) as (λ b. total_mass params (map change.Add (if b then live_of cs else o ∷ live_of cs)) ≤ total_mass params (change.Add o ∷ cs)) [
      | true ↦ omega (arith, live_mass params cs, sum_by-cons (added_mass params) (change.Add o) cs)
      | false ↦ omega (arith, live_mass params cs, sum_by-cons (added_mass params) (change.Add o) cs, sum_by-cons (added_mass params) (change.Add o) (map change.Add (live_of cs)))
    ]

-- they are no more than there were changes
live_count : (cs : List Change) → length (map change.Add (live_of cs)) ≤ length cs
live_count [] = omega arith
live_count (change.Withdraw id ∷ cs) = omega (arith, live_count cs)
live_count (change.Add o ∷ cs) =
    elim (list_any (withdraws o.id) cs) as (λ b. length (map change.Add (if b then live_of cs else o ∷ live_of cs)) ≤ length (change.Add o ∷ cs)) [
      | true ↦ omega (arith, live_count cs)
      | false ↦ omega (arith, live_count cs)
    ]

-- adds of the live objects may stand in place of the changes that left them
pub adds_like : (params : Params) (cs : List Change) → Like params cs (map change.Add (live_of cs))
adds_like params cs = record { live = live_again cs; mass = live_mass params cs; count = live_count cs }
