-- What a change that was entered leaves, from what the map and the list became.
use Rattle.std.proofs.Common.{◌≡◌, ℕ, ◌+◌, ◌<◌, ◌≤◌, Bool, true, false, ◌==◌, List, [], ◌∷◌, ◌++◌, Option, Some, length, set, take, drop, get_or, unwrap_or, is_some, refl, sym, ◌∙◌, ap, subst, arith, inl, inr, if◌then◌else◌, append_assoc}
use Rattle.std.proofs.lemmas.Bool.{not-true, and_parts, and_from, cases_lt, le-leb, leb-true}
use Rattle.std.proofs.lemmas.List.{append-nil, take_all, length_push, take-append-le}
use Rattle.std.proofs.lemmas.List.Concat.{flat_map-append}
use Rattle.std.proofs.lemmas.Bool.Decides.{nat_tests}
use Rattle.std.specs.List.{slice_get}
use Rattle.std.specs.Ordering.{nat_cmp}
use Rattle.std.specs.BTreeMap.{BTreeMap, get}
use Rattle.bw_types.specs.History.{History, changes, flat, flat_row, last_version, live_of}
use Rattle.bw_types.specs.declared.object.Object.{Object}
use Rattle.bw_types.specs.declared.change.Change.{Change}
use Rattle.bw_types.specs.declared.change.Change.TheVariants as change
use Rattle.bw_types.specs.declared.row.Row.{Row}
use Rattle.bw_types.specs.declared.row.Row.TheVariants as row
use Rattle.warehouse.specs.declared.life.Life.{Life}
use Rattle.warehouse.specs.declared.life.State.{State}
use Rattle.warehouse.specs.declared.life.State.TheVariants.{Never, Live, Withdrawn}
use Rattle.warehouse.specs.Kept.{state_in, Knows, IsLedger, IsTold, may_follow, may_all_follow, are_dated, object_at, objects_at, is_live_at}
use Rattle.warehouse.proofs.Rows.{flat_more, flat_left}
use Rattle.warehouse.proofs.Ledger.{ledger_add, ledger_withdraw, place_of_live, open_at}

unwrap_if : (b : Bool) (s : State) (o : Option State) → unwrap_or (if b then Some s else o) Never ≡ (if b then s else unwrap_or o Never)
unwrap_if true s o = refl
unwrap_if false s o = refl

state_after : (m m' : BTreeMap ℕ State) (id : ℕ) (s : State) → ((q : ℕ) → get nat_cmp m' q ≡ (if id == q then Some s else get nat_cmp m q))
    → (q : ℕ) → state_in m' q ≡ (if id == q then s else state_in m q)
state_after m m' id s h q = ap (λ (o : Option State). unwrap_or o Never) (h q) ∙ unwrap_if (id == q) s (get nat_cmp m q)

-- what was done to the lives and the states for an add, and for a withdrawal
abbrev pub IsAdded : ℕ → Object → List Life → List Life → BTreeMap ℕ State → BTreeMap ℕ State → Type 0
IsAdded w o lives lives' m m' = (lives' ≡ lives ++ record { object = o; added = w; ended = 0 } ∷ [])
    × ((q : ℕ) → get nat_cmp m' q ≡ (if o.id == q then Some (Live (length lives)) else get nat_cmp m q))

abbrev pub IsWithdrawn : ℕ → ℕ → List Life → List Life → BTreeMap ℕ State → BTreeMap ℕ State → Type 0
IsWithdrawn w id lives lives' m m' =
    ((place : ℕ) (l : Life) → state_in m id ≡ Live place → slice_get lives place ≡ Some l → lives' ≡ set lives place (record l { ended = w }))
    × ((place : ℕ) → state_in m id ≡ Live place → (q : ℕ) → get nat_cmp m' q ≡ (if id == q then Some Withdrawn else get nat_cmp m q))

added : (h : History) (cs : List Change) (w : ℕ) (lives lives' : List Life) (m m' : BTreeMap ℕ State) (o : Object)
    → IsLedger h cs w lives (state_in m) → may_follow cs (change.Add o) ≡ true → IsAdded w o lives lives' m m'
    → IsLedger h (cs ++ change.Add o ∷ []) w lives' (state_in m')
added h cs w lives lives' m m' o ledger follows is =
    let after = ledger_add h cs w lives (state_in m) (state_in m') o ledger (not-true _ follows) (state_after m m' o.id (Live (length lives)) is.1) in
    subst (λ (ls : List Life). IsLedger h (cs ++ change.Add o ∷ []) w ls (state_in m')) (sym is.0) after

withdrawn : (h : History) (cs : List Change) (w : ℕ) (lives lives' : List Life) (m m' : BTreeMap ℕ State) (id : ℕ)
    → 0 < w → IsLedger h cs w lives (state_in m) → may_follow cs (change.Withdraw id) ≡ true → IsWithdrawn w id lives lives' m m'
    → IsLedger h (cs ++ change.Withdraw id ∷ []) w lives' (state_in m')
withdrawn h cs w lives lives' m m' id later ledger live is =
    let place = place_of_live h cs w lives (state_in m) ledger id live (state_in m id) refl in
    let one = open_at h cs w lives (state_in m) ledger id place.0 place.1 in
    let after = ledger_withdraw h cs w lives (state_in m) (state_in m') id place.0 one.0 (record one.0 { ended = w }) ledger later place.1 one.1.at refl (state_after m m' id Withdrawn (is.1 place.0 place.1)) in
    subst (λ (ls : List Life). IsLedger h (cs ++ change.Withdraw id ∷ []) w ls (state_in m')) (sym (is.0 place.0 one.0 place.1 one.1.at)) after

-- from a ledger of changes that a row may follow to that with the changes of the row
abbrev pub TakesRow : ℕ → Row → List Life → List Life → BTreeMap ℕ State → BTreeMap ℕ State → Type 0
TakesRow w r lives lives' m m' = (h : History) (cs : List Change) → IsLedger h cs w lives (state_in m) → may_all_follow cs (flat_row r) ≡ true
    → IsLedger h (cs ++ flat_row r) w lives' (state_in m')

pub takes_add : (w : ℕ) (lives lives' : List Life) (m m' : BTreeMap ℕ State) (r : Row) (o : Object) → r ≡ row.Add o → IsAdded w o lives lives' m m' → TakesRow w r lives lives' m m'
takes_add w lives lives' m m' r o is step =
    subst (λ (x : Row). TakesRow w x lives lives' m m') (sym is)
    (λ h cs ledger follows. added h cs w lives lives' m m' o ledger (and_parts _ _ follows).0 step)

pub takes_withdrawal : (w : ℕ) (lives lives' : List Life) (m m' : BTreeMap ℕ State) (r : Row) (id : ℕ) → r ≡ row.Withdraw id → 0 < w → IsWithdrawn w id lives lives' m m'
    → TakesRow w r lives lives' m m'
takes_withdrawal w lives lives' m m' r id is later step =
    subst (λ (x : Row). TakesRow w x lives lives' m m') (sym is)
    (λ h cs ledger follows. withdrawn h cs w lives lives' m m' id later ledger (and_parts _ _ follows).0 step)

pub takes_move : (w : ℕ) (lives between lives' : List Life) (m n m' : BTreeMap ℕ State) (r : Row) (o : Object) → r ≡ row.Move o → 0 < w
    → IsWithdrawn w o.id lives between m n → IsAdded w o between lives' n m' → TakesRow w r lives lives' m m'
takes_move w lives between lives' m n m' r o is later first second =
    subst (λ (x : Row). TakesRow w x lives lives' m m') (sym is)
    (λ h cs ledger follows.
    let both = and_parts _ _ follows in
    let gone = withdrawn h cs w lives between m n o.id later ledger both.0 first in
    let here = added h (cs ++ change.Withdraw o.id ∷ []) w between lives' n m' o gone (and_parts _ _ both.1).0 second in
    subst (λ (xs : List Change). IsLedger h xs w lives' (state_in m')) (append_assoc cs (change.Withdraw o.id ∷ []) (change.Add o ∷ [])) here)

-- a map that loses no id knows each row that it knew
pub knows_on : (m m' : BTreeMap ℕ State) (r : Row) → ((q : ℕ) → is_some (get nat_cmp m q) ≡ true → is_some (get nat_cmp m' q) ≡ true) → Knows m r → Knows m' r
knows_on m m' (row.Add o) keeps known = keeps o.id known
knows_on m m' (row.Withdraw id) keeps known = known
knows_on m m' (row.Move o) keeps known = keeps o.id known

-- changes that may follow one after the other, cut in two
follow_parts : (cs xs ys : List Change) → may_all_follow cs (xs ++ ys) ≡ true → (may_all_follow cs xs ≡ true) × (may_all_follow (cs ++ xs) ys ≡ true)
follow_parts cs [] ys h = (refl, subst (λ (zs : List Change). may_all_follow zs ys ≡ true) (sym (append-nil cs)) h)
follow_parts cs (x ∷ xs) ys h =
    let both = and_parts _ _ h in
    let rest = follow_parts (cs ++ x ∷ []) xs ys both.1 in
    (and_from _ _ both.0 rest.0, subst (λ (zs : List Change). may_all_follow zs ys ≡ true) (append_assoc cs (x ∷ []) xs) rest.1)

-- the changes before a row with those of the row
joined : (past : List Change) (rows : List Row) (i : ℕ) (d : Row) → i < length rows → (past ++ flat (take i rows)) ++ flat_row (get_or rows i d) ≡ past ++ flat (take (i + 1) rows)
joined past rows i d lt = append_assoc past (flat (take i rows)) (flat_row (get_or rows i d)) ∙ ap (λ xs. past ++ xs) (sym (flat_more rows i d lt))

-- the next row may follow, and the others follow then
pub follow_step : (past : List Change) (rows : List Row) (i : ℕ) (d : Row) → i < length rows → may_all_follow (past ++ flat (take i rows)) (flat (drop i rows)) ≡ true
    → (may_all_follow (past ++ flat (take i rows)) (flat_row (get_or rows i d)) ≡ true) × (may_all_follow (past ++ flat (take (i + 1) rows)) (flat (drop (i + 1) rows)) ≡ true)
follow_step past rows i d lt h =
    let both = follow_parts (past ++ flat (take i rows)) (flat_row (get_or rows i d)) (flat (drop (i + 1) rows))
    (subst (λ (rest : List Change). may_all_follow (past ++ flat (take i rows)) rest ≡ true) (flat_left rows i d lt) h) in
    (both.0, subst (λ (xs : List Change). may_all_follow xs (flat (drop (i + 1) rows)) ≡ true) (joined past rows i d lt) both.1)

pub ledger_step : (h : History) (past : List Change) (rows : List Row) (i : ℕ) (d : Row) (w : ℕ) (lives : List Life) (m : BTreeMap ℕ State) → i < length rows
    → IsLedger h ((past ++ flat (take i rows)) ++ flat_row (get_or rows i d)) w lives (state_in m) → IsLedger h (past ++ flat (take (i + 1) rows)) w lives (state_in m)
ledger_step h past rows i d w lives m lt ledger =
    subst (λ (xs : List Change). IsLedger h xs w lives (state_in m)) (joined past rows i d lt) ledger

-- a batch begins: no life sees the next version yet
later_version : (w : ℕ) (l : Life) → l.added ≤ w → l.ended ≤ w → is_live_at (w + 1) l ≡ is_live_at w l
later_version w l begun past = grind (arith, nat_tests)

objects_later : (w : ℕ) (lives : List Life) → are_dated w lives ≡ true → (objects_at (w + 1) lives ≡ objects_at w lives) × (are_dated (w + 1) lives ≡ true)
objects_later w [] d = (refl, refl)
objects_later w (l ∷ lives) d =
    let both = and_parts _ _ d in
    let own = and_parts _ _ both.0 in
    let begun = leb-true l.added w own.0 in
    let past = leb-true l.ended w own.1 in
    let rest = objects_later w lives both.1 in (
      ap (λ b. (if b then l.object ∷ [] else []) ++ objects_at (w + 1) lives) (later_version w l begun past) ∙ ap (λ os. object_at w l ++ os) rest.0,
      and_from _ _ (and_from _ _ (le-leb l.added (w + 1) (omega arith)) (le-leb l.ended (w + 1) (omega arith))) rest.1,
    )

pub ledger_start : (h : History) (lives : List Life) (states : ℕ → State) → IsLedger h (changes h) (last_version h) lives states
    → IsLedger h (changes h) (last_version h + 1) lives states
ledger_start h lives states ledger =
    let later = objects_later (last_version h) lives ledger.dated in
    record {
      dated = later.1;
      now = later.0 ∙ ledger.now;
      past = λ v before.
          elim (cases_lt v (last_version h)) [
            | inl lt ↦ ledger.past v lt
            | inr ge ↦
                let last : v ≡ last_version h = omega arith in
                rw last (ledger.now ∙ ap (λ hs. live_of (changes hs)) (sym (take_all (last_version h) h (omega arith))))
          ];
      open_lives = ledger.open_lives;
      told = ledger.told;
    }

pub changes-push : (h : History) (batch : List Change) → changes (h ++ batch ∷ []) ≡ changes h ++ batch
changes-push h batch = flat_map-append (λ b. b) h (batch ∷ []) ∙ ap (λ xs. changes h ++ xs) (append-nil batch)

-- a batch is complete
pub ledger_end : (h : History) (batch : List Change) (lives : List Life) (states : ℕ → State) → IsLedger h (changes h ++ batch) (last_version h + 1) lives states
    → IsLedger (h ++ batch ∷ []) (changes (h ++ batch ∷ [])) (last_version (h ++ batch ∷ [])) lives states
ledger_end h batch lives states ledger =
    let more : last_version (h ++ batch ∷ []) ≡ last_version h + 1 = length_push h batch in
    record {
      dated = subst (λ (w : ℕ). are_dated w lives ≡ true) (sym more) ledger.dated;
      now = subst (λ (w : ℕ). objects_at w lives ≡ live_of (changes (h ++ batch ∷ []))) (sym more) (ledger.now ∙ ap live_of (sym (changes-push h batch)));
      past = λ v before. ledger.past v (omega arith) ∙ ap (λ hs. live_of (changes hs)) (sym (take-append-le v h (batch ∷ []) (omega arith)));
      open_lives = ledger.open_lives;
      told = λ id. subst (λ (cs : List Change). IsTold (states id) id cs lives) (sym (changes-push h batch)) (ledger.told id);
    }

-- states that tell the same
pub ledger_same : (h : History) (cs : List Change) (w : ℕ) (lives : List Life) (states states' : ℕ → State) → ((q : ℕ) → states' q ≡ states q)
    → IsLedger h cs w lives states → IsLedger h cs w lives states'
ledger_same h cs w lives states states' same ledger = record {
  dated = ledger.dated;
  now = ledger.now;
  past = ledger.past;
  open_lives = λ place l at lasts. same l.object.id ∙ ledger.open_lives place l at lasts;
  told = λ id. subst (λ (s : State). IsTold s id cs lives) (sym (same id)) (ledger.told id);
}

-- a whole batch, over lives and states that were made ready for it
pub batch_entered : (h : History) (batch : List Change) (w : ℕ) (before ready after : List Life) (m n o : BTreeMap ℕ State)
    → IsLedger h (changes h) (last_version h) before (state_in m) → ready ≡ before → ((q : ℕ) → state_in n q ≡ state_in m q) → w ≡ last_version h + 1
    → may_all_follow (changes h) batch ≡ true
    → ((k : History) → IsLedger k (changes k) w ready (state_in n) → may_all_follow (changes k) batch ≡ true → IsLedger k (changes k ++ batch) w after (state_in o))
    → IsLedger h (changes h ++ batch) (last_version h + 1) after (state_in o)
batch_entered h batch w before ready after m n o ledger same told version follow enter =
    let started = ledger_same h (changes h) (last_version h + 1) before (state_in m) (state_in n) told (ledger_start h before (state_in m) ledger) in
    let at = subst (λ (v : ℕ). IsLedger h (changes h) v before (state_in n)) (sym version) started in
    let over = subst (λ (ls : List Life). IsLedger h (changes h) w ls (state_in n)) (sym same) at in
    subst (λ (v : ℕ). IsLedger h (changes h ++ batch) v after (state_in o)) version (enter h over follow)
