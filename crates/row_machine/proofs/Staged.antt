-- What is staged keeps fitting: tests of every row in every session.
use Rattle.std.proofs.Common.{◌≡◌, ℕ, zero, suc, Bool, true, false, ◌&&◌, List, [], ◌∷◌, ◌++◌, slice_index_or, slice_set, refl}
use Rattle.std.proofs.Common.{Result, Ok, Err, OnOk, OnErr, ap, ◌∙◌}
use Rattle.std.specs.List.{list_all}
use Rattle.bw_types.specs.Fits.{row_fits}
use Rattle.bw_types.specs.declared.params.Params.{Params}
use Rattle.bw_types.specs.declared.row.Row.{Row}
use Rattle.row_machine.specs.DeskState.{OnlyFitting}

-- both of two tests that hold together
pub first_holds : (a b : Bool) → (a && b) ≡ true → a ≡ true
first_holds true b e = refl
first_holds false b e = e

pub second_holds : (a b : Bool) → (a && b) ≡ true → b ≡ true
second_holds true b e = e
second_holds false b e = cc

pub both_hold : (a b : Bool) → a ≡ true → b ≡ true → (a && b) ≡ true
both_hold true b e f = f
both_hold false b e f = e

-- a list that is put in place of another one
pub list_all-set : {A : Type 0} (p : A → Bool) (xs : List A) (k : ℕ) (x : A) → list_all p xs ≡ true → p x ≡ true → list_all p (slice_set xs k x) ≡ true
list_all-set p [] k x h e = h
list_all-set p (y ∷ ys) zero x h e = both_hold _ _ e (second_holds (p y) _ h)
list_all-set p (y ∷ ys) (suc k) x h e = both_hold _ _ (first_holds (p y) _ h) (list_all-set p ys k x (second_holds (p y) _ h) e)

-- one of the lists, or the default past the end
pub list_all-get : {A : Type 0} (p : A → Bool) (xs : List A) (k : ℕ) (d : A) → list_all p xs ≡ true → p d ≡ true → p (slice_index_or xs k d) ≡ true
list_all-get p [] k d h e = e
list_all-get p (y ∷ ys) zero d h e = first_holds (p y) _ h
list_all-get p (y ∷ ys) (suc k) d h e = list_all-get p ys k d (second_holds (p y) _ h) e

-- one element more
pub list_all-push : {A : Type 0} (p : A → Bool) (xs : List A) (x : A) → list_all p xs ≡ true → p x ≡ true → list_all p (xs ++ x ∷ []) ≡ true
list_all-push p [] x h e = both_hold _ _ e refl
list_all-push p (y ∷ ys) x h e = both_hold _ _ (first_holds (p y) _ h) (list_all-push p ys x (second_holds (p y) _ h) e)

-- an emptied session
pub clear_keeps : (params : Params) (staged staged' : List (List Row)) (k : ℕ) → staged' ≡ slice_set staged k [] → OnlyFitting params staged → OnlyFitting params staged'
clear_keeps params staged staged' k e old = ap (list_all (list_all (row_fits params))) e ∙ list_all-set (list_all (row_fits params)) staged k [] old refl

-- a row that fits is put last in a session
pub push_keeps : (params : Params) (staged staged' : List (List Row)) (k : ℕ) (r : Row) → staged' ≡ slice_set staged k (slice_index_or staged k [] ++ r ∷ []) → row_fits params r ≡ true → OnlyFitting params staged → OnlyFitting params staged'
push_keeps params staged staged' k r e fits old =
    ap (list_all (list_all (row_fits params))) e
    ∙ list_all-set (list_all (row_fits params)) staged k _ old
    (list_all-push (row_fits params) (slice_index_or staged k []) r (list_all-get (list_all (row_fits params)) staged k [] old refl) fits)

-- the answer of a session to a row that fits
pub stage_keeps : {E : Type 0} (params : Params) (staged staged' : List (List Row)) (k : ℕ) (r : Row) (answer : Result (Unit {0}) E) → OnOk answer (staged' ≡ slice_set staged k (slice_index_or staged k [] ++ r ∷ [])) → OnErr answer (staged' ≡ staged) → row_fits params r ≡ true → OnlyFitting params staged → OnlyFitting params staged'
stage_keeps params staged staged' k r (Ok done) pushed same fits old = push_keeps params staged staged' k r pushed fits old
stage_keeps params staged staged' k r (Err e) pushed same fits old = rw same old

-- what a session has staged fits
pub rows_fit : (params : Params) (staged : List (List Row)) (k : ℕ) → OnlyFitting params staged → list_all (row_fits params) (slice_index_or staged k []) ≡ true
rows_fit params staged k old = list_all-get (list_all (row_fits params)) staged k [] old refl
