-- What one more change does to which ids are live and were added.
use Rattle.std.proofs.Common.{◌≡◌, ℕ, Bool, true, false, not, ◌&&◌, ◌||◌, ◌==◌, List, [], ◌∷◌, ◌++◌, if◌then◌else◌, refl, sym, ◌∙◌, ap, inl, inr}
use Rattle.std.specs.List.{list_any}
use Rattle.std.proofs.Math.Bool.{or-false}
use Rattle.std.proofs.lemmas.Bool.{eqb-true, and_parts, or_cases, or_left, or_right}
use Rattle.std.proofs.lemmas.List.Folds.{list_any-append}
use Rattle.bw_types.specs.History.{adds, withdraws, live_of}
use Rattle.bw_types.specs.Refusals.{is_live, was_added}
use Rattle.bw_types.specs.declared.object.Object.{Object}
use Rattle.bw_types.specs.declared.change.Change.{Change}
use Rattle.bw_types.specs.declared.change.Change.TheVariants.{Add, Withdraw}

or_twice : (a b c : Bool) → (a || (b || c)) ≡ ((a || b) || c)
or_twice true b c = refl
or_twice false b c = refl

-- one more at the end
pub list_any-push : {X : Type 0} (p : X → Bool) (xs : List X) (x : X) → list_any p (xs ++ x ∷ []) ≡ (list_any p xs || p x)
list_any-push p xs x = list_any-append p xs (x ∷ []) ∙ ap (λ b. list_any p xs || b) (or-false (p x))

list_any-kept : {X : Type 0} (t : X → Bool) (ended : Bool) (x : X) (xs : List X) → list_any t (if ended then xs else x ∷ xs) ≡ ((not ended && t x) || list_any t xs)
list_any-kept t true x xs = refl
list_any-kept t false x xs = refl

-- an add at the front, which a later withdrawal may end
is_live-front : (id : ℕ) (o : Object) (later : List Change) → is_live id (Add o ∷ later) ≡ ((not (list_any (withdraws o.id) later) && (o.id == id)) || is_live id later)
is_live-front id o later = list_any-kept (λ p. p.id == id) (list_any (withdraws o.id) later) o (live_of later)

pub was_added-push : (id : ℕ) (cs : List Change) (c : Change) → was_added id (cs ++ c ∷ []) ≡ (was_added id cs || adds id c)
was_added-push id cs c = list_any-push (adds id) cs c

-- an add makes its id live
pub is_live-add : (id : ℕ) (cs : List Change) (o : Object) → is_live id (cs ++ Add o ∷ []) ≡ (is_live id cs || (o.id == id))
is_live-add id [] o = or-false (o.id == id)
is_live-add id (Withdraw w ∷ cs) o = is_live-add id cs o
is_live-add id (Add p ∷ cs) o =
    is_live-front id p (cs ++ Add o ∷ [])
    ∙ rw (list_any-push (withdraws p.id) cs (Add o), or-false (list_any (withdraws p.id) cs), is_live-add id cs o)
    (or_twice (not (list_any (withdraws p.id) cs) && (p.id == id)) (is_live id cs) (o.id == id)
    ∙ ap (λ b. b || (o.id == id)) (sym (is_live-front id p cs)))

ended_same : (w k l : Bool) → ((not (w || k) && true) || (l && not k)) ≡ (((not w && true) || l) && not k)
ended_same true true true = refl
ended_same true true false = refl
ended_same true false true = refl
ended_same true false false = refl
ended_same false true true = refl
ended_same false true false = refl
ended_same false false true = refl
ended_same false false false = refl

ended_other : (w e k l : Bool) → ((not (w || e) && false) || (l && not k)) ≡ (((not w && false) || l) && not k)
ended_other true e k l = refl
ended_other false true k l = refl
ended_other false false k l = refl

ended : (w e s k l : Bool) → (s ≡ true → e ≡ k) → ((not (w || e) && s) || (l && not k)) ≡ (((not w && s) || l) && not k)
ended w e true k l same = rw (same refl) (ended_same w k l)
ended w e false k l same = ended_other w e k l

-- a withdrawal ends its id
pub is_live-withdraw : (id : ℕ) (cs : List Change) (w : ℕ) → is_live id (cs ++ Withdraw w ∷ []) ≡ (is_live id cs && not (w == id))
is_live-withdraw id [] w = refl
is_live-withdraw id (Withdraw v ∷ cs) w = is_live-withdraw id cs w
is_live-withdraw id (Add p ∷ cs) w =
    is_live-front id p (cs ++ Withdraw w ∷ [])
    ∙ rw (list_any-push (withdraws p.id) cs (Withdraw w), is_live-withdraw id cs w)
    (ended (list_any (withdraws p.id) cs) (w == p.id) (p.id == id) (w == id) (is_live id cs) (λ same. ap (λ x. w == x) (eqb-true p.id id same))
    ∙ ap (λ b. b && not (w == id)) (sym (is_live-front id p cs)))

-- what is live was added
pub is_live-added : (id : ℕ) (cs : List Change) → is_live id cs ≡ true → was_added id cs ≡ true
is_live-added id [] h = cc
is_live-added id (Withdraw w ∷ cs) h = is_live-added id cs h
is_live-added id (Add p ∷ cs) h =
    elim (or_cases (not (list_any (withdraws p.id) cs) && (p.id == id)) (is_live id cs) (sym (is_live-front id p cs) ∙ h)) [
      | inl here ↦ or_left (p.id == id) (was_added id cs) (and_parts (not (list_any (withdraws p.id) cs)) (p.id == id) here).1
      | inr later ↦ or_right (p.id == id) (was_added id cs) (is_live-added id cs later)
    ]
