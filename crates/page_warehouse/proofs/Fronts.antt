-- The fronts of a lawful batch, and what is so of each of its changes.
use Rattle.std.proofs.Common.{◌≡◌, ℕ, ◌+◌, ◌^◌, ◌<◌, ◌≤◌, Bool, true, false, ◌==◌, nat_lt, List, [], ◌∷◌, ◌++◌, Option, Some, None, is_none, length, map, refl, sym, ◌∙◌, ap, subst, arith, inl, inr, if◌then◌else◌, append_assoc}
use Rattle.std.proofs.lemmas.Bool.{and_parts, and_from, cases_Bool, le-leb, leb-true, le-ltb, ltb-false}
use Rattle.std.proofs.lemmas.List.{append-nil}
use Rattle.std.proofs.lemmas.List.Folds.{list_all-append}
use Rattle.std.specs.List.{list_all}
use Rattle.std.specs.Option.{option_or, option_map}
use Rattle.bw_types.specs.Fits.{IsInRange, object_fits, row_fits}
use Rattle.bw_types.specs.History.{History, changes, event_count, flat, flat_row}
use Rattle.bw_types.specs.Lawful.{IsLawful, IsLawfulBatch, as_row, staged_rows}
use Rattle.bw_types.specs.Lives.{lives}
use Rattle.bw_types.specs.Refusals.{first_refusal, first_refused_row, refused_at, row_refusal}
use Rattle.bw_types.specs.declared.params.Params.{Params}
use Rattle.bw_types.specs.declared.change.Change.{Change}
use Rattle.bw_types.specs.declared.change.Change.TheVariants as change
use Rattle.bw_types.specs.declared.refusal.Reason.TheVariants.{Events}
use Rattle.history_laws.specs.Alone.{LivesCountChanges}
use Rattle.history_laws.specs.Bounds.{LawfulHasRoom}
use Rattle.history_laws.specs.Lawful.{LawfulGrows, StagingChangesNoRefusal}
use Rattle.page_warehouse.specs.Begun.{with_changes}

-- of two answers in turn neither is there
none_first : {X : Type 0} (o p : Option X) → option_or o p ≡ None → o ≡ None
none_first None p h = refl
none_first (Some x) p h = absurd (cc)

none_second : {X : Type 0} (o p : Option X) → option_or o p ≡ None → p ≡ None
none_second None p h = h
none_second (Some x) p h = absurd (cc)

none_both : {X : Type 0} (o p : Option X) → o ≡ None → p ≡ None → option_or o p ≡ None
none_both o p e f = rw e f

none_mapped : {X Y : Type 0} (f : X → Y) (o : Option X) → option_map f o ≡ None → o ≡ None
none_mapped f None h = refl
none_mapped f (Some x) h = absurd (cc)

pub none_if : {X : Type 0} (b : Bool) (x : X) (o : Option X) → (if b then Some x else o) ≡ None → (b ≡ false) × (o ≡ None)
none_if true x o h = absurd (cc)
none_if false x o h = (refl, h)

if_none : {X : Type 0} (b : Bool) (x : X) (o : Option X) → b ≡ false → o ≡ None → (if b then Some x else o) ≡ None
if_none b x o e f = rw e f

none_is : {X : Type 0} (o : Option X) → is_none o ≡ true → o ≡ None
none_is None e = refl
none_is (Some x) e = absurd (let no : false ≡ true = e in cc)

-- a change alone is a row
flat_as_row : (c : Change) → flat_row (as_row c) ≡ c ∷ []
flat_as_row (change.Add o) = refl
flat_as_row (change.Withdraw id) = refl

flat_length : (cs : List Change) → length (flat (map as_row cs)) ≡ length cs
flat_length [] = refl
flat_length (c ∷ cs) =
    let first : length (flat (map as_row (c ∷ cs))) ≡ length (c ∷ flat (map as_row cs)) = ap (λ (ds : List Change). length (ds ++ flat (map as_row cs))) (flat_as_row c) in
    omega (arith, first, flat_length cs)

-- no row of a front is refused
front_rows_go : (params : Params) (past batch : List Change) (place : ℕ) (done later : List Change)
    → first_refused_row params past batch place (map as_row (done ++ later)) ≡ None → first_refused_row params past batch place (map as_row done) ≡ None
front_rows_go params past batch place [] later none = refl
front_rows_go params past batch place (c ∷ done) later none =
    none_both _ _ (none_first _ _ none) (front_rows_go params past (batch ++ flat_row (as_row c)) (place + 1) done later (none_second _ _ none))

-- and so the next change is not
next_goes : (params : Params) (past batch : List Change) (place : ℕ) (done : List Change) (c : Change) (later : List Change)
    → first_refused_row params past batch place (map as_row (done ++ c ∷ later)) ≡ None → row_refusal params past (batch ++ done) (as_row c) ≡ None
next_goes params past batch place [] c later none =
    subst (λ (b : List Change). row_refusal params past b (as_row c) ≡ None) (sym (append-nil batch)) (none_mapped (refused_at place) _ (none_first _ _ none))
next_goes params past batch place (d ∷ done) c later none =
    let pushed : (batch ++ flat_row (as_row d)) ++ done ≡ batch ++ d ∷ done =
    ap (λ (ds : List Change). (batch ++ ds) ++ done) (flat_as_row d) ∙ append_assoc batch (d ∷ []) done in
    subst (λ (b : List Change). row_refusal params past b (as_row c) ≡ None) pushed (next_goes params past (batch ++ flat_row (as_row d)) (place + 1) done c later (none_second _ _ none))

front_refusal : (params : Params) (h : History) (done later : List Change) → first_refusal params h (map as_row (done ++ later)) ≡ None → first_refusal params h (map as_row done) ≡ None
front_refusal params h done later none =
    let parts = none_if (nat_lt params.events (event_count h + length (flat (map as_row (done ++ later))) + 1)) (refused_at 0 Events) _ none in
    let room = ltb-false params.events (event_count h + length (flat (map as_row (done ++ later))) + 1) parts.0 in
    let fewer : length (flat (map as_row done)) ≤ length (flat (map as_row (done ++ later))) = omega (arith, flat_length done, flat_length (done ++ later), length_front done later) in
    if_none (nat_lt params.events (event_count h + length (flat (map as_row done)) + 1)) (refused_at 0 Events) _ (le-ltb params.events (event_count h + length (flat (map as_row done)) + 1) (omega (arith, room, fewer)))
    (front_rows_go params (changes h) [] 1 done later parts.1)
  where
    length_front : (xs ys : List Change) → length xs ≤ length (xs ++ ys)
    length_front [] ys = omega arith
    length_front (x ∷ xs) ys = omega (arith, length_front xs ys)

-- the rows that stage a front are no more
one_row : (id : ℕ) (later : List Change) → 1 ≤ length (staged_rows (change.Withdraw id ∷ later))
one_row id [] = omega arith
one_row id (change.Withdraw other ∷ cs) = omega arith
one_row id (change.Add o ∷ cs) = elim (cases_Bool (o.id == id)) [
  | inl e ↦ rw e (omega arith)
  | inr ne ↦ rw ne (omega arith)
]

front_staged : (done later : List Change) → length (staged_rows done) ≤ length (staged_rows (done ++ later))
front_staged [] later = omega arith
front_staged (change.Add o ∷ cs) later = omega (arith, front_staged cs later)
front_staged (change.Withdraw id ∷ []) later = one_row id later
front_staged (change.Withdraw id ∷ change.Withdraw other ∷ cs) later = omega (arith, front_staged (change.Withdraw other ∷ cs) later)
front_staged (change.Withdraw id ∷ change.Add o ∷ cs) later = let rest = front_staged cs later in elim (cases_Bool (o.id == id)) [
  | inl e ↦ rw e (omega (arith, rest))
  | inr ne ↦ rw ne (omega (arith, rest))
]

-- changes fit where the rows that stage them do
abbrev pub change_fits : Params → Change → Bool
change_fits params c = row_fits params (as_row c)

pub changes_fit : (params : Params) (cs : List Change) → list_all (row_fits params) (staged_rows cs) ≡ true → list_all (change_fits params) cs ≡ true
changes_fit params [] h = refl
changes_fit params (change.Add o ∷ cs) h = let both = and_parts _ _ h in and_from _ _ both.0 (changes_fit params cs both.1)
changes_fit params (change.Withdraw id ∷ []) h = refl
changes_fit params (change.Withdraw id ∷ change.Withdraw other ∷ cs) h = changes_fit params (change.Withdraw other ∷ cs) h
changes_fit params (change.Withdraw id ∷ change.Add o ∷ cs) h = elim (cases_Bool (o.id == id)) [
  | inl e ↦ let both = and_parts (object_fits params o) (list_all (row_fits params) (staged_rows cs)) (rw e at h) in and_from _ _ both.0 (changes_fit params cs both.1)
  | inr ne ↦ let both = and_parts (object_fits params o) (list_all (row_fits params) (staged_rows cs)) (rw ne at h) in and_from _ _ both.0 (changes_fit params cs both.1)
]

staged_fit : (params : Params) (cs : List Change) → list_all (change_fits params) cs ≡ true → list_all (row_fits params) (staged_rows cs) ≡ true
staged_fit params [] h = refl
staged_fit params (change.Add o ∷ cs) h = let both = and_parts _ _ h in and_from _ _ both.0 (staged_fit params cs both.1)
staged_fit params (change.Withdraw id ∷ []) h = refl
staged_fit params (change.Withdraw id ∷ change.Withdraw other ∷ cs) h = staged_fit params (change.Withdraw other ∷ cs) h
staged_fit params (change.Withdraw id ∷ change.Add o ∷ cs) h = let both = and_parts (object_fits params o) (list_all (change_fits params) cs) h in elim (cases_Bool (o.id == id)) [
  | inl e ↦ rw e (and_from _ _ both.0 (staged_fit params cs both.1))
  | inr ne ↦ rw ne (and_from _ _ both.0 (staged_fit params cs both.1))
]

fit_parts : (params : Params) (h : History) (done later : List Change) → IsLawfulBatch params h (done ++ later) → (list_all (change_fits params) done ≡ true) × (list_all (change_fits params) later ≡ true)
fit_parts params h done later lawful =
    and_parts (list_all (change_fits params) done) (list_all (change_fits params) later) (sym (list_all-append (change_fits params) done later) ∙ changes_fit params (done ++ later) lawful.fits)

-- the changes of a lawful batch have no refusal, one by one
none_refused : StagingChangesNoRefusal → (params : Params) (h : History) (batch : List Change) → IsLawfulBatch params h batch → first_refusal params h (map as_row batch) ≡ None
none_refused staging params h batch lawful = (staging params h batch).1 (none_is (first_refusal params h (staged_rows batch)) lawful.accepted)

front_lawful : StagingChangesNoRefusal → (params : Params) (h : History) (done later : List Change) → IsLawfulBatch params h (done ++ later) → IsLawfulBatch params h done
front_lawful staging params h done later lawful =
    let none = (staging params h done).0 (front_refusal params h done later (none_refused staging params h (done ++ later) lawful)) in
    record {
      fits = staged_fit params done (fit_parts params h done later lawful).0;
      size = le-leb (length (staged_rows done)) 4096 (omega (arith, front_staged done later, leb-true (length (staged_rows (done ++ later))) 4096 lawful.size));
      accepted = rw none refl;
    }

pub fronts_lawful : StagingChangesNoRefusal → LawfulGrows → (params : Params) (h : History) (done later : List Change) → IsLawful params h → IsLawfulBatch params h (done ++ later)
    → IsLawfulBatch params h done × IsLawful params (with_changes h done)
fronts_lawful staging grows params h done later lawful batch =
    let front = front_lawful staging params h done later batch in
    (front, grows params h done lawful front)

pub next_fits : (params : Params) (h : History) (done later : List Change) (c : Change) → IsLawfulBatch params h (done ++ c ∷ later) → change_fits params c ≡ true
next_fits params h done later c lawful =
    (and_parts (change_fits params c) (list_all (change_fits params) later) (fit_parts params h done (c ∷ later) lawful).1).0

pub next_accepted : StagingChangesNoRefusal → (params : Params) (h : History) (done later : List Change) (c : Change) → IsLawfulBatch params h (done ++ c ∷ later)
    → row_refusal params (changes h) done (as_row c) ≡ None
next_accepted staging params h done later c lawful =
    let parts = none_if (nat_lt params.events (event_count h + length (flat (map as_row (done ++ c ∷ later))) + 1)) (refused_at 0 Events) _ (none_refused staging params h (done ++ c ∷ later) lawful) in
    next_goes params (changes h) [] 1 done c later parts.1

-- a lawful history has few changes, and no more lives
few_changes : (params : Params) (h : History) → IsInRange params → event_count h ≤ params.events → length (changes h) + 1 ≤ 2 ^ 28
few_changes params [] range room = omega arith
few_changes params (b ∷ bs) range room = omega (arith, room, range.events)

pub changes_are_few : LawfulHasRoom → (params : Params) (h : History) → IsInRange params → IsLawful params h → length (changes h) + 1 ≤ 2 ^ 28
changes_are_few has_room params h range lawful = few_changes params h range (has_room params h lawful).events

pub lives_are_few : LawfulHasRoom → LivesCountChanges → (params : Params) (h : History) → IsInRange params → IsLawful params h → length (lives h) < 2 ^ 28
lives_are_few has_room counted params h range lawful = omega (arith, changes_are_few has_room params h range lawful, counted params h lawful)
