-- Which objects are live after one change more.
use Rattle.std.proofs.Common.{◌≡◌, ℕ, Bool, true, false, ◌||◌, ◌==◌, not, List, [], ◌∷◌, ◌++◌, refl, ◌∙◌, ap, if◌then◌else◌}
use Rattle.std.proofs.lemmas.List.Folds.{list_any-append}
use Rattle.std.specs.List.{list_any, filter}
use Rattle.bw_types.specs.History.{adds, withdraws, live_of}
use Rattle.bw_types.specs.Refusals.{was_added}
use Rattle.bw_types.specs.declared.object.Object.{Object}
use Rattle.bw_types.specs.declared.change.Change.{Change}
use Rattle.bw_types.specs.declared.change.Change.TheVariants as change

or-false : (b : Bool) → (b || false) ≡ b
or-false true = refl
or-false false = refl

any-push : {X : Type 0} (p : X → Bool) (xs : List X) (x : X) → list_any p (xs ++ x ∷ []) ≡ (list_any p xs || p x)
any-push p xs x = list_any-append p xs (x ∷ []) ∙ ap (λ b. list_any p xs || b) (or-false (p x))

pub was_added-push : (id : ℕ) (cs : List Change) (c : Change) → was_added id (cs ++ c ∷ []) ≡ (was_added id cs || adds id c)
was_added-push id cs c = any-push (adds id) cs c

withdrawn-add : (id : ℕ) (cs : List Change) (o : Object) → list_any (withdraws id) (cs ++ change.Add o ∷ []) ≡ list_any (withdraws id) cs
withdrawn-add id cs o = any-push (withdraws id) cs (change.Add o) ∙ or-false (list_any (withdraws id) cs)

pub live_of-add : (cs : List Change) (o : Object) → live_of (cs ++ change.Add o ∷ []) ≡ live_of cs ++ o ∷ []
live_of-add [] o = refl
live_of-add (change.Add p ∷ cs) o =
    rw (withdrawn-add p.id cs o)
    (elim (list_any (withdraws p.id) cs) as (λ b. (if b then live_of (cs ++ change.Add o ∷ []) else p ∷ live_of (cs ++ change.Add o ∷ [])) ≡ (if b then live_of cs else p ∷ live_of cs) ++ o ∷ []) [
      | true ↦ live_of-add cs o
      | false ↦ ap (λ os. p ∷ os) (live_of-add cs o)
    ])
live_of-add (change.Withdraw id ∷ cs) o = live_of-add cs o

pub live_of-withdraw : (cs : List Change) (id : ℕ) → live_of (cs ++ change.Withdraw id ∷ []) ≡ filter (λ o. not (id == o.id)) (live_of cs)
live_of-withdraw [] id = refl
live_of-withdraw (change.Add p ∷ cs) id =
    rw (any-push (withdraws p.id) cs (change.Withdraw id))
    (elim (list_any (withdraws p.id) cs) as (λ b. (if b || (id == p.id) then live_of (cs ++ change.Withdraw id ∷ []) else p ∷ live_of (cs ++ change.Withdraw id ∷ [])) ≡ filter (λ o. not (id == o.id)) (if b then live_of cs else p ∷ live_of cs)) [
      | true ↦ live_of-withdraw cs id
      | false ↦ elim (id == p.id) as (λ e. (if e then live_of (cs ++ change.Withdraw id ∷ []) else p ∷ live_of (cs ++ change.Withdraw id ∷ [])) ≡ (if not e then p ∷ filter (λ o. not (id == o.id)) (live_of cs) else filter (λ o. not (id == o.id)) (live_of cs))) [
        | true ↦ live_of-withdraw cs id
        | false ↦ ap (λ os. p ∷ os) (live_of-withdraw cs id)
      ]
    ])
live_of-withdraw (change.Withdraw other ∷ cs) id = live_of-withdraw cs id
