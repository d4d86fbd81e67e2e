-- How ids stand after one more change, and what that means for the next row.
use Rattle.std.proofs.Common.{◌≡◌, ℕ, Bool, true, false, not, ◌&&◌, ◌==◌, List, [], ◌∷◌, ◌++◌, if◌then◌else◌, Option, Some, None, refl, append_assoc}
use Rattle.std.specs.Option.{option_or}
use Rattle.std.proofs.Math.Bool.{or-false, or-true, and-true, and-false}
use Rattle.std.proofs.lemmas.Bool.{eq-eqb}
use Rattle.bw_types.specs.Refusals.{is_live, was_added, withdrawal_refusal}
use Rattle.bw_types.specs.declared.object.Object.{Object}
use Rattle.bw_types.specs.declared.change.Change.{Change}
use Rattle.bw_types.specs.declared.change.Change.TheVariants.{Add, Withdraw}
use Rattle.bw_types.specs.declared.refusal.Reason.{Reason}
use Rattle.bw_types.specs.declared.refusal.Reason.TheVariants as reason
use Rattle.session_book.specs.declared.standing.Standing.TheVariants.{Withdrawn, Fresh}
use Rattle.session_book.specs.Standing.{standing_of, standing_after, refusal_to_add, refusal_to_withdraw}
use Rattle.session_book.proofs.Changes.{is_live-add, is_live-withdraw, is_live-added, was_added-push}

same_id : (id : ℕ) → (id == id) ≡ true
same_id id = eq-eqb id id refl

-- an add
pub standing-add-same : (past staged : List Change) (o : Object) → standing_after past (staged ++ Add o ∷ []) o.id ≡ Fresh
standing-add-same past staged o =
    rw (← append_assoc past staged (Add o ∷ []), is_live-add o.id (past ++ staged) o, was_added-push o.id staged (Add o), same_id o.id, or-true, or-true) refl

pub standing-add-other : (past staged : List Change) (o : Object) (id : ℕ) → (o.id == id) ≡ false → standing_after past (staged ++ Add o ∷ []) id ≡ standing_after past staged id
standing-add-other past staged o id other =
    rw (← append_assoc past staged (Add o ∷ []), is_live-add id (past ++ staged) o, was_added-push id staged (Add o), was_added-push id (past ++ staged) (Add o), other, or-false, or-false, or-false) refl

-- a withdrawal
pub standing-withdraw-same : (past staged : List Change) (id : ℕ) → is_live id (past ++ staged) ≡ true → standing_after past (staged ++ Withdraw id ∷ []) id ≡ Withdrawn
standing-withdraw-same past staged id live =
    rw (← append_assoc past staged (Withdraw id ∷ []), is_live-withdraw id (past ++ staged) id, was_added-push id (past ++ staged) (Withdraw id), same_id id, is_live-added id (past ++ staged) live, and-false) refl

pub standing-withdraw-other : (past staged : List Change) (w id : ℕ) → (w == id) ≡ false → standing_after past (staged ++ Withdraw w ∷ []) id ≡ standing_after past staged id
standing-withdraw-other past staged w id other =
    rw (← append_assoc past staged (Withdraw w ∷ []), is_live-withdraw id (past ++ staged) w, was_added-push id staged (Withdraw w), was_added-push id (past ++ staged) (Withdraw w), other, and-true, or-false, or-false) refl

live_by_refusal : (live fresh added : Bool) → refusal_to_withdraw (standing_of live fresh added) ≡ None → live ≡ true
live_by_refusal true fresh added h = refl
live_by_refusal false fresh true h = cc
live_by_refusal false fresh false h = cc

-- an id whose withdrawal is not refused is live
pub is_live-accepted : (past staged : List Change) (id : ℕ) → refusal_to_withdraw (standing_after past staged id) ≡ None → is_live id (past ++ staged) ≡ true
is_live-accepted past staged id h = live_by_refusal (is_live id (past ++ staged)) (was_added id staged) (was_added id (past ++ staged)) h

refusal_by_tests : (live fresh added : Bool) → (live ≡ true → added ≡ true)
    → (if live && fresh then Some reason.Fresh else (if not added then Some reason.Unknown else (if not live then Some reason.Gone else None))) ≡ refusal_to_withdraw (standing_of live fresh added)
refusal_by_tests true true added h = refl
refusal_by_tests true false true h = refl
refusal_by_tests true false false h = let e : false ≡ true = h refl in cc
refusal_by_tests false fresh true h = refl
refusal_by_tests false fresh false h = refl

-- a withdrawal is refused by how its id stands
pub withdrawal_refusal-is : (past staged : List Change) (id : ℕ) → withdrawal_refusal past staged id ≡ refusal_to_withdraw (standing_after past staged id)
withdrawal_refusal-is past staged id =
    refusal_by_tests (is_live id (past ++ staged)) (was_added id staged) (was_added id (past ++ staged)) (is_live-added id (past ++ staged))

add_by_tests : (live fresh added : Bool) (mass : Option Reason) → (if live then Some reason.Used else mass) ≡ option_or (refusal_to_add (standing_of live fresh added)) mass
add_by_tests true true added mass = refl
add_by_tests true false added mass = refl
add_by_tests false fresh true mass = refl
add_by_tests false fresh false mass = refl

-- an add is refused by how its id stands, and then by its mass
pub add_refusal-is : (past staged : List Change) (id : ℕ) (mass : Option Reason) → (if is_live id (past ++ staged) then Some reason.Used else mass) ≡ option_or (refusal_to_add (standing_after past staged id)) mass
add_refusal-is past staged id mass = add_by_tests (is_live id (past ++ staged)) (was_added id staged) (was_added id (past ++ staged)) mass
