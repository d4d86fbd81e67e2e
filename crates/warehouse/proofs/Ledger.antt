-- How the lives and the states of ids change with each change.
use Rattle.std.proofs.Common.{◌≡◌, ℕ, zero, suc, ◌<◌, ◌≤◌, Bool, true, false, ◌&&◌, ◌||◌, ◌==◌, not, nat_lt, nat_le, List, [], ◌∷◌, ◌++◌, Some, length, set, refl, sym, ◌∙◌, ap, subst, arith, inl, inr, ◌⊎◌, if◌then◌else◌}
use Rattle.std.proofs.lemmas.Bool.{cases_eq, and_parts, and_from, or_left, both_ways, eq-eqb, ne_eqb, le-leb, lt-leb, lt-ltb, leb-true, or_right, or_from}
use Rattle.std.proofs.lemmas.List.Concat.{flat_map-append}
use Rattle.std.proofs.lemmas.List.Folds.{list_any-append}
use Rattle.std.proofs.lemmas.List.{append-nil}
use Rattle.std.proofs.lemmas.List.Elements.{filter-append}
use Rattle.std.proofs.lemmas.Bool.Decides.{nat_tests}
use Rattle.std.proofs.Math.Bool.{and-false}
use Rattle.std.specs.List.{list_any, filter, slice_get}
use Rattle.bw_types.specs.History.{History, adds, live}
use Rattle.bw_types.specs.Refusals.{was_added, is_live}
use Rattle.bw_types.specs.declared.object.Object.{Object}
use Rattle.bw_types.specs.declared.change.Change.{Change}
use Rattle.bw_types.specs.declared.change.Change.TheVariants as change
use Rattle.warehouse.specs.Kept.{is_live_at, object_at, objects_at, are_dated, IsTold, IsLedger}
use Rattle.warehouse.specs.declared.life.Life.{Life}
use Rattle.warehouse.specs.declared.life.State.{State}
use Rattle.warehouse.specs.declared.life.State.TheVariants.{Never, Live, Withdrawn}
use Rattle.warehouse.proofs.LiveOf.{was_added-push, live_of-add, live_of-withdraw}

-- reading a list that grew, or that was written to
slice_get-front : {X : Type 0} (xs ys : List X) (i : ℕ) (x : X) → slice_get xs i ≡ Some x → slice_get (xs ++ ys) i ≡ Some x
slice_get-front [] ys i x e = absurd (cc)
slice_get-front (y ∷ xs) ys zero x e = e
slice_get-front (y ∷ xs) ys (suc i) x e = slice_get-front xs ys i x e

slice_get-push : {X : Type 0} (xs : List X) (y : X) → slice_get (xs ++ y ∷ []) (length xs) ≡ Some y
slice_get-push [] y = refl
slice_get-push (x ∷ xs) y = slice_get-push xs y

pub slice_get-pushed : {X : Type 0} (xs : List X) (y : X) (i : ℕ) (x : X) → slice_get (xs ++ y ∷ []) i ≡ Some x → (slice_get xs i ≡ Some x) ⊎ ((i ≡ length xs) × (y ≡ x))
slice_get-pushed [] y zero x e = inr (refl, cc)
slice_get-pushed [] y (suc i) x e = absurd (cc)
slice_get-pushed (z ∷ xs) y zero x e = inl e
slice_get-pushed (z ∷ xs) y (suc i) x e =
    elim (slice_get-pushed xs y i x e) [ inl h ↦ inl h | inr h ↦ inr (ap suc h.0, h.1) ]

slice_get-set_same : {X : Type 0} (xs : List X) (i : ℕ) (x y : X) → slice_get xs i ≡ Some x → slice_get (set xs i y) i ≡ Some y
slice_get-set_same [] i x y e = absurd (cc)
slice_get-set_same (z ∷ xs) zero x y e = refl
slice_get-set_same (z ∷ xs) (suc i) x y e = slice_get-set_same xs i x y e

slice_get-set_other : {X : Type 0} (xs : List X) (i j : ℕ) (y : X) → (j ≡ i → ⊥) → slice_get (set xs i y) j ≡ slice_get xs j
slice_get-set_other [] i j y ne = refl
slice_get-set_other (z ∷ xs) zero zero y ne = absurd (ne refl)
slice_get-set_other (z ∷ xs) zero (suc j) y ne = refl
slice_get-set_other (z ∷ xs) (suc i) zero y ne = refl
slice_get-set_other (z ∷ xs) (suc i) (suc j) y ne = slice_get-set_other xs i j y (λ e. ne (ap suc e))

-- the object of a life that was live, and of one that was not
object_at-live : (w : ℕ) (l : Life) → is_live_at w l ≡ true → object_at w l ≡ l.object ∷ []
object_at-live w l e = ap (λ b. if b then l.object ∷ [] else []) e

object_at-not : (w : ℕ) (l : Life) → is_live_at w l ≡ false → object_at w l ≡ []
object_at-not w l e = ap (λ b. if b then l.object ∷ [] else []) e

open_is_live : (w : ℕ) (l : Life) → l.added ≤ w → l.ended ≡ 0 → is_live_at w l ≡ true
open_is_live w l begun e = and_from (nat_le l.added w) _ (le-leb l.added w begun) (or_left (l.ended == 0) _ (eq-eqb l.ended 0 e))

ended_is_not : (w : ℕ) (l : Life) → l.ended ≤ w → (l.ended ≡ 0 → ⊥) → is_live_at w l ≡ false
ended_is_not w l past ne =
    let a : (l.ended == 0) ≡ false = ne_eqb l.ended 0 ne in
    let b : nat_lt w l.ended ≡ false = grind (arith, nat_tests) in
    rw (a, b) (and-false _)

late_is_not : (w : ℕ) (l : Life) → w < l.added → is_live_at w l ≡ false
late_is_not w l late = ap (λ b. b && (l.ended == 0 || nat_lt w l.ended)) (lt-leb l.added w late)

dated-at : (w : ℕ) (lives : List Life) (place : ℕ) (l : Life) → are_dated w lives ≡ true → slice_get lives place ≡ Some l → (l.added ≤ w) × (l.ended ≤ w)
dated-at w [] place l d e = absurd (cc)
dated-at w (x ∷ xs) zero l d e =
    let both = and_parts _ _ d in
    let own = and_parts _ _ both.0 in
    let same : x ≡ l = cc in
    subst (λ (y : Life). (y.added ≤ w) × (y.ended ≤ w)) same (leb-true x.added w own.0, leb-true x.ended w own.1)
dated-at w (x ∷ xs) (suc place) l d e = dated-at w xs place l (and_parts _ _ d).1 e

dated-set : (w : ℕ) (lives : List Life) (place : ℕ) (l : Life) → are_dated w lives ≡ true → l.added ≤ w → l.ended ≤ w → are_dated w (set lives place l) ≡ true
dated-set w [] place l d a e = refl
dated-set w (x ∷ xs) zero l d a e = and_from _ _ (and_from _ _ (le-leb l.added w a) (le-leb l.ended w e)) (and_parts _ _ d).1
dated-set w (x ∷ xs) (suc place) l d a e = let both = and_parts _ _ d in and_from _ _ both.0 (dated-set w xs place l both.1 a e)

dated-push : (w : ℕ) (lives : List Life) (l : Life) → are_dated w lives ≡ true → l.added ≤ w → l.ended ≤ w → are_dated w (lives ++ l ∷ []) ≡ true
dated-push w [] l d a e = and_from _ _ (and_from _ _ (le-leb l.added w a) (le-leb l.ended w e)) refl
dated-push w (x ∷ xs) l d a e = let both = and_parts _ _ d in and_from _ _ both.0 (dated-push w xs l both.1 a e)

-- a test that drops the objects with an id
abbrev pub is_other : ℕ → Object → Bool
is_other id o = not (id == o.id)

dropped : (w id : ℕ) (l : Life) → l.object.id ≡ id → filter (is_other id) (object_at w l) ≡ []
dropped w id l e =
    elim (is_live_at w l) as (λ b. filter (is_other id) (if b then l.object ∷ [] else []) ≡ []) [
      | true ↦ let same : (id == l.object.id) ≡ true = eq-eqb id l.object.id (sym e) in rw same refl
      | false ↦ refl
    ]

kept : (w id : ℕ) (l : Life) → (l.object.id ≡ id → is_live_at w l ≡ false) → filter (is_other id) (object_at w l) ≡ object_at w l
kept w id l h =
    elim (cases_eq l.object.id id) [
      | inl e ↦ rw (object_at-not w l (h e)) refl
      | inr ne ↦
          elim (is_live_at w l) as (λ b. filter (is_other id) (if b then l.object ∷ [] else []) ≡ (if b then l.object ∷ [] else [])) [
            | true ↦ let other : (id == l.object.id) ≡ false = ne_eqb id l.object.id (λ e. ne (sym e)) in rw other refl
            | false ↦ refl
          ]
    ]

-- no life of the id is live
abbrev pub NoneLive : ℕ → ℕ → List Life → Type 0
NoneLive w id lives = (place : ℕ) (l : Life) → slice_get lives place ≡ Some l → l.object.id ≡ id → is_live_at w l ≡ false

none_dropped : (w id : ℕ) (lives : List Life) → NoneLive w id lives → filter (is_other id) (objects_at w lives) ≡ objects_at w lives
none_dropped w id [] h = refl
none_dropped w id (l ∷ lives) h =
    filter-append (is_other id) (object_at w l) (objects_at w lives)
    ∙ ap (λ os. os ++ filter (is_other id) (objects_at w lives)) (kept w id l (h zero l refl))
    ∙ ap (λ os. object_at w l ++ os) (none_dropped w id lives (λ place m. h (suc place) m))

none_any : (w id : ℕ) (lives : List Life) → NoneLive w id lives → list_any (λ o. o.id == id) (objects_at w lives) ≡ false
none_any w id [] h = refl
none_any w id (l ∷ lives) h =
    let rest = none_any w id lives (λ place m. h (suc place) m) in
    let first : list_any (λ o. o.id == id) (object_at w l) ≡ false =
    elim (cases_eq l.object.id id) [
      | inl e ↦ rw (object_at-not w l (h zero l refl e)) refl
      | inr ne ↦
          elim (is_live_at w l) as (λ b. list_any (λ o. o.id == id) (if b then l.object ∷ [] else []) ≡ false) [
            | true ↦ let other : (l.object.id == id) ≡ false = ne_eqb l.object.id id ne in rw other refl
            | false ↦ refl
          ]
    ] in
    list_any-append (λ o. o.id == id) (object_at w l) (objects_at w lives) ∙ or_from _ _ first rest

any_at : (w id : ℕ) (lives : List Life) (place : ℕ) (l : Life) → slice_get lives place ≡ Some l → is_live_at w l ≡ true → l.object.id ≡ id → list_any (λ o. o.id == id) (objects_at w lives) ≡ true
any_at w id [] place l e a i = absurd (cc)
any_at w id (x ∷ xs) zero l e a i =
    let same : l ≡ x = cc in
    let own : object_at w x ≡ l.object ∷ [] = ap (object_at w) (sym same) ∙ object_at-live w l a in
    let first : list_any (λ o. o.id == id) (object_at w x) ≡ true = ap (list_any (λ o. o.id == id)) own ∙ or_left _ _ (eq-eqb l.object.id id i) in
    list_any-append (λ o. o.id == id) (object_at w x) (objects_at w xs) ∙ or_left _ _ first
any_at w id (x ∷ xs) (suc place) l e a i =
    list_any-append (λ o. o.id == id) (object_at w x) (objects_at w xs) ∙ or_right (list_any (λ o. o.id == id) (object_at w x)) _ (any_at w id xs place l e a i)

-- a life that is written over, at a version that sees no difference
set_unseen : (v : ℕ) (lives : List Life) (place : ℕ) (l l' : Life) → slice_get lives place ≡ Some l → object_at v l' ≡ object_at v l → objects_at v (set lives place l') ≡ objects_at v lives
set_unseen v [] place l l' e same = absurd (cc)
set_unseen v (x ∷ xs) zero l l' e same =
    let is : l ≡ x = cc in
    ap (λ os. os ++ objects_at v xs) (same ∙ ap (object_at v) is)
set_unseen v (x ∷ xs) (suc place) l l' e same = ap (λ os. object_at v x ++ os) (set_unseen v xs place l l' e same)

-- the one live life of the id is ended
set_ended : (w id : ℕ) (lives : List Life) (place : ℕ) (l l' : Life) → slice_get lives place ≡ Some l → l.object.id ≡ id → object_at w l' ≡ []
    → ((q : ℕ) (m : Life) → (q ≡ place → ⊥) → slice_get lives q ≡ Some m → m.object.id ≡ id → is_live_at w m ≡ false)
    → objects_at w (set lives place l') ≡ filter (is_other id) (objects_at w lives)
set_ended w id [] place l l' e i gone others = absurd (cc)
set_ended w id (x ∷ xs) zero l l' e i gone others =
    let is : l ≡ x = cc in
    let own : x.object.id ≡ id = ap (λ (y : Life). y.object.id) (sym is) ∙ i in
    ap (λ os. os ++ objects_at w xs) (gone ∙ sym (dropped w id x own))
    ∙ ap (λ os. filter (is_other id) (object_at w x) ++ os) (sym (none_dropped w id xs (λ q m at same. others (suc q) m (λ z. absurd (omega arith)) at same)))
    ∙ sym (filter-append (is_other id) (object_at w x) (objects_at w xs))
set_ended w id (x ∷ xs) (suc place) l l' e i gone others =
    ap (λ os. os ++ objects_at w (set xs place l')) (sym (kept w id x (others zero x (λ z. absurd (omega arith)) refl)))
    ∙ ap (λ os. filter (is_other id) (object_at w x) ++ os) (set_ended w id xs place l l' e i gone (λ q m ne at same. others (suc q) m (λ z. ne (omega arith)) at same))
    ∙ sym (filter-append (is_other id) (object_at w x) (objects_at w xs))

-- an id whose state is not `Live` has no live life
none_live : (h : History) (cs : List Change) (w : ℕ) (lives : List Life) (states : ℕ → State) → IsLedger h cs w lives states
    → (id : ℕ) → ((place : ℕ) → states id ≡ Live place → ⊥) → NoneLive w id lives
none_live h cs w lives states ledger id not_live place l at same =
    let dates = dated-at w lives place l ledger.dated at in
    ended_is_not w l dates.1 (λ z. not_live place (ap states (sym same) ∙ ledger.open_lives place l at z))

pub not_live : (h : History) (cs : List Change) (w : ℕ) (lives : List Life) (states : ℕ → State) → IsLedger h cs w lives states
    → (id : ℕ) → ((place : ℕ) → states id ≡ Live place → ⊥) → is_live id cs ≡ false
not_live h cs w lives states ledger id not_one =
    ap (list_any (λ o. o.id == id)) (sym ledger.now) ∙ none_any w id lives (none_live h cs w lives states ledger id not_one)

-- the life of an id whose state is `Live`
pub record IsOpenAt (lives : List Life) (id place : ℕ) (l : Life) : Type 0 where
  pub at : slice_get lives place ≡ Some l
  pub is : l.object.id ≡ id
  pub lasts : l.ended ≡ 0

pub open_at : (h : History) (cs : List Change) (w : ℕ) (lives : List Life) (states : ℕ → State) → IsLedger h cs w lives states
    → (id place : ℕ) → states id ≡ Live place → (l : Life) × IsOpenAt lives id place l
open_at h cs w lives states ledger id place e =
    let told = subst (λ (s : State). IsTold s id cs lives) e (ledger.told id) in
    (told.0, record { at = told.1; is = told.2; lasts = told.3 })

pub live_then : (h : History) (cs : List Change) (w : ℕ) (lives : List Life) (states : ℕ → State) → IsLedger h cs w lives states
    → (id place : ℕ) → states id ≡ Live place → is_live id cs ≡ true
live_then h cs w lives states ledger id place e =
    let one = open_at h cs w lives states ledger id place e in
    let dates = dated-at w lives place one.0 ledger.dated one.1.at in
    ap (list_any (λ o. o.id == id)) (sym ledger.now)
    ∙ any_at w id lives place one.0 one.1.at (open_is_live w one.0 dates.0 one.1.lasts) one.1.is

-- a live id has its place
pub place_of_live : (h : History) (cs : List Change) (w : ℕ) (lives : List Life) (states : ℕ → State) → IsLedger h cs w lives states
    → (id : ℕ) → is_live id cs ≡ true → (s : State) → states id ≡ s → (place : ℕ) × (states id ≡ Live place)
place_of_live h cs w lives states ledger id live (Live place) e = (place, e)
place_of_live h cs w lives states ledger id live Never e = absurd (both_ways _ (not_live h cs w lives states ledger id (λ place f. cc)) live)
place_of_live h cs w lives states ledger id live Withdrawn e = absurd (both_ways _ (not_live h cs w lives states ledger id (λ place f. cc)) live)

-- what is told of an id holds after a change more, of lives that keep its own
told_on : (s : State) (id : ℕ) (cs : List Change) (c : Change) (lives lives' : List Life) → IsTold s id cs lives → (adds id c ≡ false)
    → ((place : ℕ) (l : Life) → s ≡ Live place → slice_get lives place ≡ Some l → slice_get lives' place ≡ Some l) → IsTold s id (cs ++ c ∷ []) lives'
told_on Never id cs c lives lives' told not_added keep = was_added-push id cs c ∙ or_from _ _ told not_added
told_on (Live place) id cs c lives lives' told not_added keep =
    (told.0, keep place told.0 refl told.1, told.2, told.3, was_added-push id cs c ∙ or_left _ _ told.4)
told_on Withdrawn id cs c lives lives' told not_added keep = was_added-push id cs c ∙ or_left _ _ told

-- earlier versions do not see that a life was ended
unseen : (v w : ℕ) (l l' : Life) → v < w → l.ended ≡ 0 → l' ≡ record l { ended = w } → object_at v l' ≡ object_at v l
unseen v w l l' before lasts ends =
    let a : (w == 0 || nat_lt v w) ≡ true = or_right (w == 0) _ (lt-ltb v w before) in
    let b : (l.ended == 0 || nat_lt v l.ended) ≡ true = or_left _ _ (eq-eqb l.ended 0 lasts) in
    rw (ends, a, b) refl

-- an add of an id that is not live begins a life
pub ledger_add : (h : History) (cs : List Change) (w : ℕ) (lives : List Life) (states states' : ℕ → State) (o : Object)
    → IsLedger h cs w lives states → is_live o.id cs ≡ false
    → ((q : ℕ) → states' q ≡ (if o.id == q then Live (length lives) else states q))
    → IsLedger h (cs ++ change.Add o ∷ []) w (lives ++ record { object = o; added = w; ended = 0 } ∷ []) states'
ledger_add h cs w lives states states' o ledger fresh now_told =
    let begun : Life = record { object = o; added = w; ended = 0 } in
    let own : states' o.id ≡ Live (length lives) = now_told o.id ∙ ap (λ b. if b then Live (length lives) else states o.id) (eq-eqb o.id o.id refl) in
    let other : (q : ℕ) → (o.id ≡ q → ⊥) → states' q ≡ states q = λ q ne. now_told q ∙ ap (λ b. if b then Live (length lives) else states q) (ne_eqb o.id q ne) in
    record {
      dated = dated-push w lives begun ledger.dated (omega arith) (omega arith);
      now =
          flat_map-append (object_at w) lives (begun ∷ [])
          ∙ ap (λ os. objects_at w lives ++ (os ++ [])) (object_at-live w begun (open_is_live w begun (omega arith) refl))
          ∙ ap (λ os. os ++ o ∷ []) ledger.now
          ∙ sym (live_of-add cs o);
      past = λ v before.
          flat_map-append (object_at v) lives (begun ∷ [])
          ∙ ap (λ os. objects_at v lives ++ (os ++ [])) (object_at-not v begun (late_is_not v begun before))
          ∙ append-nil (objects_at v lives)
          ∙ ledger.past v before;
      open_lives = λ place l at lasts.
          elim (slice_get-pushed lives begun place l at) [
            | inl old ↦
                other l.object.id (λ same. both_ways _ fresh (live_then h cs w lives states ledger o.id place (ap states same ∙ ledger.open_lives place l old lasts)))
                ∙ ledger.open_lives place l old lasts
            | inr new ↦ ap (λ (m : Life). states' m.object.id) (sym new.1) ∙ own ∙ ap Live (sym new.0)
          ];
      told = λ id.
          elim (cases_eq o.id id) [
            | inl same ↦
                subst (λ (s : State). IsTold s id (cs ++ change.Add o ∷ []) (lives ++ begun ∷ [])) (sym (ap states' (sym same) ∙ own))
                (begun, slice_get-push lives begun, same, refl, was_added-push id cs (change.Add o) ∙ or_right (was_added id cs) _ (eq-eqb o.id id same))
            | inr ne ↦
                subst (λ (s : State). IsTold s id (cs ++ change.Add o ∷ []) (lives ++ begun ∷ [])) (sym (other id ne))
                (told_on (states id) id cs (change.Add o) lives (lives ++ begun ∷ []) (ledger.told id) (ne_eqb o.id id ne) (λ place l is at. slice_get-front lives (begun ∷ []) place l at))
          ];
    }

-- a withdrawal of a live id ends its life
pub ledger_withdraw : (h : History) (cs : List Change) (w : ℕ) (lives : List Life) (states states' : ℕ → State) (id place : ℕ) (l l' : Life)
    → IsLedger h cs w lives states → 0 < w → states id ≡ Live place → slice_get lives place ≡ Some l → l' ≡ record l { ended = w }
    → ((q : ℕ) → states' q ≡ (if id == q then Withdrawn else states q))
    → IsLedger h (cs ++ change.Withdraw id ∷ []) w (set lives place l') states'
ledger_withdraw h cs w lives states states' id place l l' ledger later is_live_there at ends now_told =
    let one = open_at h cs w lives states ledger id place is_live_there in
    let same_life : one.0 ≡ l = let e = one.1.at in cc in
    let is : l.object.id ≡ id = ap (λ (m : Life). m.object.id) (sym same_life) ∙ one.1.is in
    let lasts : l.ended ≡ 0 = ap (λ (m : Life). m.ended) (sym same_life) ∙ one.1.lasts in
    let dates = dated-at w lives place l ledger.dated at in
    let ended : l'.ended ≡ w = ap (λ (m : Life). m.ended) ends in
    let begun : l'.added ≡ l.added = ap (λ (m : Life). m.added) ends in
    let own : states' id ≡ Withdrawn = now_told id ∙ ap (λ b. if b then Withdrawn else states id) (eq-eqb id id refl) in
    let other : (q : ℕ) → (id ≡ q → ⊥) → states' q ≡ states q = λ q ne. now_told q ∙ ap (λ b. if b then Withdrawn else states q) (ne_eqb id q ne) in
    let others : (q : ℕ) (m : Life) → (q ≡ place → ⊥) → slice_get lives q ≡ Some m → m.object.id ≡ id → is_live_at w m ≡ false =
    λ q m apart there same.
    ended_is_not w m (dated-at w lives q m ledger.dated there).1
    (λ z. let e : Live q ≡ Live place = sym (ledger.open_lives q m there z) ∙ ap states same ∙ is_live_there in apart (cc)) in
    record {
      dated = dated-set w lives place l' ledger.dated (omega arith) (omega arith);
      now =
          set_ended w id lives place l l' at is (object_at-not w l' (ended_is_not w l' (omega arith) (λ z. absurd (omega arith)))) others
          ∙ ap (filter (is_other id)) ledger.now
          ∙ sym (live_of-withdraw cs id);
      past = λ v before.
          set_unseen v lives place l l' at (unseen v w l l' before lasts ends) ∙ ledger.past v before;
      open_lives = λ q m there z.
          elim (cases_eq q place) [
            | inl here ↦
                let found : slice_get (set lives place l') place ≡ Some m = subst (λ (i : ℕ). slice_get (set lives place l') i ≡ Some m) here there in
                let written = slice_get-set_same lives place l l' at in
                let e : l' ≡ m = cc in
                let zero_end : l'.ended ≡ 0 = ap (λ (x : Life). x.ended) e ∙ z in
                absurd (omega arith)
            | inr apart ↦
                let found : slice_get lives q ≡ Some m = sym (slice_get-set_other lives place q l' apart) ∙ there in
                other m.object.id (λ same.
                let e : Live q ≡ Live place = sym (ledger.open_lives q m found z) ∙ ap states (sym same) ∙ is_live_there in apart (cc))
                ∙ ledger.open_lives q m found z
          ];
      told = λ q.
          elim (cases_eq id q) [
            | inl same ↦
                subst (λ (s : State). IsTold s q (cs ++ change.Withdraw id ∷ []) (set lives place l')) (sym (ap states' (sym same) ∙ own))
                (let was = subst (λ (s : State). IsTold s id cs lives) is_live_there (ledger.told id) in
                was_added-push q cs (change.Withdraw id) ∙ or_left _ _ (ap (λ i. was_added i cs) (sym same) ∙ was.4))
            | inr ne ↦
                subst (λ (s : State). IsTold s q (cs ++ change.Withdraw id ∷ []) (set lives place l')) (sym (other q ne))
                (told_on (states q) q cs (change.Withdraw id) lives (set lives place l') (ledger.told q) refl
                (λ p m is_there there.
                slice_get-set_other lives place p l' (λ here.
                let found : slice_get lives place ≡ Some m = subst (λ (i : ℕ). slice_get lives i ≡ Some m) here there in
                let same_one : l ≡ m = cc in
                let q_open = open_at h cs w lives states ledger q p is_there in
                let e : q_open.0 ≡ m = let f = q_open.1.at in cc in
                ne (sym is ∙ ap (λ (x : Life). x.object.id) (same_one ∙ sym e) ∙ q_open.1.is))
                ∙ there))
          ];
    }
