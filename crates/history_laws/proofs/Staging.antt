-- Rows without a refusal, and the adds and withdrawals that they stage.
use Rattle.std.proofs.Common.{◌≡◌, ◌↔◌, ℕ, ◌+◌, ◌≤◌, Bool, true, false, ◌||◌, ◌==◌, nat_lt, nat_le, IsTrue, List, [], ◌∷◌, ◌++◌, Option, Some, None, length, map, refl, sym, ◌∙◌, ap, subst, arith, inl, inr, if◌then◌else◌, append_assoc}
use Rattle.std.proofs.lemmas.Bool.{and_parts, and_from, or_from, cases_eq, cases_Bool, eq-eqb, ne_eqb, eqb-true, le-leb}
use Rattle.std.proofs.lemmas.List.{append-nil}
use Rattle.std.proofs.lemmas.List.Folds.{list_all-append, list_any-append}
use Rattle.std.proofs.lemmas.List.Sums.{sum_by-append, sum_by-cons}
use Rattle.std.specs.List.{list_all, list_any}
use Rattle.std.specs.Option.{option_or, option_map}
use Rattle.bw_types.specs.Fits.{object_fits, row_fits}
use Rattle.bw_types.specs.History.{History, flat, flat_row, changes, event_count, live_of, withdraws}
use Rattle.bw_types.specs.Lawful.{as_row, staged_rows, IsLawfulBatch, IsLawful, AreLawfulAfter}
use Rattle.bw_types.specs.Mass.{mass, mass_limit}
use Rattle.bw_types.specs.Refusals.{is_live, added_mass, total_mass, mass_refusal, withdrawal_refusal, row_refusal, refused_at, first_refused_row, first_refusal}
use Rattle.bw_types.specs.declared.params.Params.{Params}
use Rattle.bw_types.specs.declared.object.Object.{Object}
use Rattle.bw_types.specs.declared.change.Change.{Change}
use Rattle.bw_types.specs.declared.change.Change.TheVariants as change
use Rattle.bw_types.specs.declared.row.Row.{Row}
use Rattle.bw_types.specs.declared.row.Row.TheVariants as row
use Rattle.bw_types.specs.declared.refusal.Reason.TheVariants.{Used, Mass, Events}

-- of two answers in turn neither is there
none_first : {X : Type 0} (o p : Option X) → option_or o p ≡ None → o ≡ None
none_first None p h = refl
none_first (Some x) p h = absurd (cc)

none_second : {X : Type 0} (o p : Option X) → option_or o p ≡ None → p ≡ None
none_second None p h = h
none_second (Some x) p h = absurd (cc)

none_both : {X : Type 0} (o p : Option X) → o ≡ None → p ≡ None → option_or o p ≡ None
none_both o p e f = rw e f

none_mapped : {X Y : Type 0} (f : X → Y) (o : Option X) → option_map f o ≡ None → o ≡ None
none_mapped f None h = refl
none_mapped f (Some x) h = absurd (cc)

map_none : {X Y : Type 0} (f : X → Y) (o : Option X) → o ≡ None → option_map f o ≡ None
map_none f o e = rw e refl

pub none_if : {X : Type 0} (b : Bool) (x : X) (o : Option X) → (if b then Some x else o) ≡ None → (b ≡ false) × (o ≡ None)
none_if true x o h = absurd (cc)
none_if false x o h = (refl, h)

if_none : {X : Type 0} (b : Bool) (x : X) (o : Option X) → b ≡ false → o ≡ None → (if b then Some x else o) ≡ None
if_none b x o e f = rw e f

-- a withdrawal leaves its id not live, and adds no mass
or-false : (b : Bool) → (b || false) ≡ b
or-false true = refl
or-false false = refl

any-push : {X : Type 0} (p : X → Bool) (xs : List X) (x : X) → list_any p (xs ++ x ∷ []) ≡ (list_any p xs || p x)
any-push p xs x = list_any-append p xs (x ∷ []) ∙ ap (λ b. list_any p xs || b) (or-false (p x))

withdrawn : (cs : List Change) (id : ℕ) → list_any (λ o. o.id == id) (live_of (cs ++ change.Withdraw id ∷ [])) ≡ false
withdrawn [] id = refl
withdrawn (change.Withdraw other ∷ cs) id = withdrawn cs id
withdrawn (change.Add p ∷ cs) id =
    rw (any-push (withdraws p.id) cs (change.Withdraw id))
    (elim (list_any (withdraws p.id) cs) as (λ b. list_any (λ o. o.id == id) (if b || (id == p.id) then live_of (cs ++ change.Withdraw id ∷ []) else p ∷ live_of (cs ++ change.Withdraw id ∷ [])) ≡ false) [
      | true ↦ withdrawn cs id
      | false ↦ elim (cases_eq id p.id) [
        | inl e ↦ let same : (id == p.id) ≡ true = eq-eqb id p.id e in rw same (withdrawn cs id)
        | inr ne ↦
            let other : (id == p.id) ≡ false = ne_eqb id p.id ne in
            let back : (p.id == id) ≡ false = ne_eqb p.id id (λ e. ne (sym e)) in
            rw other (or_from _ _ back (withdrawn cs id))
      ]
    ])

pub total_withdrawn : (params : Params) (cs : List Change) (id : ℕ) → total_mass params (cs ++ change.Withdraw id ∷ []) ≡ total_mass params cs
total_withdrawn params cs id =
    let more = sum_by-append (added_mass params) cs (change.Withdraw id ∷ []) in
    let one = sum_by-cons (added_mass params) (change.Withdraw id) [] in
    omega arith

mass_withdrawn : (params : Params) (cs : List Change) (id : ℕ) (o : Object) → mass_refusal params (cs ++ change.Withdraw id ∷ []) o ≡ mass_refusal params cs o
mass_withdrawn params cs id o = ap (λ (n : ℕ). if nat_le mass_limit (n + mass params o) then Some Mass else None) (total_withdrawn params cs id)

-- no reason against a change after the earlier ones
abbrev pub goes : Params → List Change → List Change → Change → Type 0
goes params past batch c = row_refusal params past batch (as_row c) ≡ None

-- none against any of the changes
abbrev pub GoAll : Params → List Change → List Change → List Change → Type 0
GoAll params past batch [] = Unit {0}
GoAll params past batch (c ∷ cs) = goes params past batch c × GoAll params past (batch ++ c ∷ []) cs

-- an add of the id that was just withdrawn
add_after : (params : Params) (past batch : List Change) (o : Object) → mass_refusal params (past ++ batch) o ≡ None
    → row_refusal params past (batch ++ change.Withdraw o.id ∷ []) (row.Add o) ≡ None
add_after params past batch o small =
    let joined : past ++ (batch ++ change.Withdraw o.id ∷ []) ≡ (past ++ batch) ++ change.Withdraw o.id ∷ [] = sym (append_assoc past batch (change.Withdraw o.id ∷ [])) in
    subst (λ (cs : List Change). (if is_live o.id cs then Some Used else mass_refusal params cs o) ≡ None) (sym joined)
    (if_none _ Used _ (withdrawn (past ++ batch) o.id) (mass_withdrawn params (past ++ batch) o.id o ∙ small))

mass_before : (params : Params) (past batch : List Change) (id : ℕ) (o : Object) → row_refusal params past (batch ++ change.Withdraw id ∷ []) (row.Add o) ≡ None
    → mass_refusal params (past ++ batch) o ≡ None
mass_before params past batch id o h =
    let joined : past ++ (batch ++ change.Withdraw id ∷ []) ≡ (past ++ batch) ++ change.Withdraw id ∷ [] = sym (append_assoc past batch (change.Withdraw id ∷ [])) in
    let small = (none_if _ Used _ h).1 in
    sym (ap (λ (cs : List Change). mass_refusal params cs o) joined ∙ mass_withdrawn params (past ++ batch) id o) ∙ small

push_push : (batch : List Change) (c d : Change) → (batch ++ c ∷ []) ++ d ∷ [] ≡ batch ++ (c ∷ d ∷ [])
push_push batch c d = append_assoc batch (c ∷ []) (d ∷ [])

-- rows without a refusal: none of their changes has one
pub all_go : (params : Params) (past batch : List Change) (place : ℕ) (rows : List Row) → first_refused_row params past batch place rows ≡ None → GoAll params past batch (flat rows)
all_go params past batch place [] h = tt
all_go params past batch place (row.Add o ∷ rows) h =
    (none_mapped (refused_at place) _ (none_first _ _ h), all_go params past (batch ++ change.Add o ∷ []) (place + 1) rows (none_second _ _ h))
all_go params past batch place (row.Withdraw id ∷ rows) h =
    (none_mapped (refused_at place) _ (none_first _ _ h), all_go params past (batch ++ change.Withdraw id ∷ []) (place + 1) rows (none_second _ _ h))
all_go params past batch place (row.Move o ∷ rows) h =
    let own = none_mapped (refused_at place) (row_refusal params past batch (row.Move o)) (none_first _ _ h) in
    let rest = all_go params past (batch ++ (change.Withdraw o.id ∷ change.Add o ∷ [])) (place + 1) rows (none_second _ _ h) in (
      none_first _ _ own,
      (
        add_after params past batch o (none_second _ _ own),
        subst (λ (b : List Change). GoAll params past b (flat rows)) (sym (push_push batch (change.Withdraw o.id) (change.Add o))) rest,
      ),
    )

-- changes without a refusal: none of the rows that stage them has one
staged_go : (params : Params) (past batch : List Change) (place : ℕ) (cs : List Change) → GoAll params past batch cs → first_refused_row params past batch place (staged_rows cs) ≡ None
staged_go params past batch place [] g = refl
staged_go params past batch place (change.Add o ∷ cs) g =
    none_both _ _ (map_none (refused_at place) _ g.0) (staged_go params past (batch ++ change.Add o ∷ []) (place + 1) cs g.1)
staged_go params past batch place (change.Withdraw id ∷ []) g =
    none_both _ _ (map_none (refused_at place) _ g.0) refl
staged_go params past batch place (change.Withdraw id ∷ change.Withdraw other ∷ cs) g =
    none_both _ _ (map_none (refused_at place) _ g.0) (staged_go params past (batch ++ change.Withdraw id ∷ []) (place + 1) (change.Withdraw other ∷ cs) g.1)
staged_go params past batch place (change.Withdraw id ∷ change.Add o ∷ cs) g =
    elim (cases_Bool (o.id == id)) [
      | inl e ↦
          let same : o.id ≡ id = eqb-true o.id id e in
          let own : row_refusal params past batch (row.Move o) ≡ None =
          none_both _ _ (subst (λ (n : ℕ). withdrawal_refusal past batch n ≡ None) (sym same) g.0) (mass_before params past batch id o g.1.0) in
          let later : GoAll params past (batch ++ flat_row (row.Move o)) cs =
          subst (λ (b : List Change). GoAll params past b cs) (push_push batch (change.Withdraw id) (change.Add o) ∙ ap (λ (n : ℕ). batch ++ (change.Withdraw n ∷ change.Add o ∷ [])) (sym same)) g.1.1 in
          rw e (none_both _ _ (map_none (refused_at place) _ own) (staged_go params past (batch ++ flat_row (row.Move o)) (place + 1) cs later))
      | inr ne ↦
          rw ne (none_both _ _ (map_none (refused_at place) _ g.0)
          (none_both _ _ (map_none (refused_at (place + 1)) _ g.1.0) (staged_go params past ((batch ++ change.Withdraw id ∷ []) ++ change.Add o ∷ []) (place + 1 + 1) cs g.1.1)))
    ]

-- one row a change
one_by_one : (params : Params) (past batch : List Change) (place : ℕ) (cs : List Change) → GoAll params past batch cs → first_refused_row params past batch place (map as_row cs) ≡ None
one_by_one params past batch place [] g = refl
one_by_one params past batch place (change.Add o ∷ cs) g =
    none_both _ _ (map_none (refused_at place) _ g.0) (one_by_one params past (batch ++ change.Add o ∷ []) (place + 1) cs g.1)
one_by_one params past batch place (change.Withdraw id ∷ cs) g =
    none_both _ _ (map_none (refused_at place) _ g.0) (one_by_one params past (batch ++ change.Withdraw id ∷ []) (place + 1) cs g.1)

flat_one_by_one : (cs : List Change) → flat (map as_row cs) ≡ cs
flat_one_by_one [] = refl
flat_one_by_one (change.Add o ∷ cs) = ap (λ ds. change.Add o ∷ ds) (flat_one_by_one cs)
flat_one_by_one (change.Withdraw id ∷ cs) = ap (λ ds. change.Withdraw id ∷ ds) (flat_one_by_one cs)

-- the rows that stage the changes have these changes
pub flat_staged : (cs : List Change) → flat (staged_rows cs) ≡ cs
flat_staged [] = refl
flat_staged (change.Add o ∷ cs) = ap (λ ds. change.Add o ∷ ds) (flat_staged cs)
flat_staged (change.Withdraw id ∷ []) = refl
flat_staged (change.Withdraw id ∷ change.Withdraw other ∷ cs) = ap (λ ds. change.Withdraw id ∷ ds) (flat_staged (change.Withdraw other ∷ cs))
flat_staged (change.Withdraw id ∷ change.Add o ∷ cs) = elim (cases_Bool (o.id == id)) [
  | inl e ↦ rw e (ap (λ (n : ℕ). change.Withdraw n ∷ change.Add o ∷ flat (staged_rows cs)) (eqb-true o.id id e) ∙ ap (λ ds. change.Withdraw id ∷ change.Add o ∷ ds) (flat_staged cs))
  | inr ne ↦ rw ne (ap (λ ds. change.Withdraw id ∷ change.Add o ∷ ds) (flat_staged cs))
]

-- they are no more rows than any that have these changes
fewest : (r : Row) (cs : List Change) → length (staged_rows (flat_row r ++ cs)) ≤ 1 + length (staged_rows cs)
fewest (row.Add o) cs = omega arith
fewest (row.Withdraw id) [] = omega arith
fewest (row.Withdraw id) (change.Withdraw other ∷ cs) = omega arith
fewest (row.Withdraw id) (change.Add o ∷ cs) = elim (cases_Bool (o.id == id)) [
  | inl e ↦ rw e (omega arith)
  | inr ne ↦ rw ne (omega arith)
]
fewest (row.Move o) cs = let same : (o.id == o.id) ≡ true = eq-eqb o.id o.id refl in rw same (omega arith)

fewest_rows : (rows : List Row) → length (staged_rows (flat rows)) ≤ length rows
fewest_rows [] = omega arith
fewest_rows (r ∷ rows) = omega (arith, fewest r (flat rows), fewest_rows rows)

-- and they fit
abbrev change_fits : Params → Change → Bool
change_fits params c = row_fits params (as_row c)

row_changes_fit : (params : Params) (r : Row) → row_fits params r ≡ true → list_all (change_fits params) (flat_row r) ≡ true
row_changes_fit params (row.Add o) h = and_from _ _ h refl
row_changes_fit params (row.Withdraw id) h = refl
row_changes_fit params (row.Move o) h = and_from _ _ h refl

changes_fit : (params : Params) (rows : List Row) → list_all (row_fits params) rows ≡ true → list_all (change_fits params) (flat rows) ≡ true
changes_fit params [] h = refl
changes_fit params (r ∷ rows) h =
    let both = and_parts _ _ h in
    list_all-append (change_fits params) (flat_row r) (flat rows) ∙ and_from _ _ (row_changes_fit params r both.0) (changes_fit params rows both.1)

staged_fit : (params : Params) (cs : List Change) → list_all (change_fits params) cs ≡ true → list_all (row_fits params) (staged_rows cs) ≡ true
staged_fit params [] h = refl
staged_fit params (change.Add o ∷ cs) h = let both = and_parts _ _ h in and_from _ _ both.0 (staged_fit params cs both.1)
staged_fit params (change.Withdraw id ∷ []) h = refl
staged_fit params (change.Withdraw id ∷ change.Withdraw other ∷ cs) h = staged_fit params (change.Withdraw other ∷ cs) h
staged_fit params (change.Withdraw id ∷ change.Add o ∷ cs) h = let both = and_parts (object_fits params o) (list_all (change_fits params) cs) h in elim (cases_Bool (o.id == id)) [
  | inl e ↦ rw e (and_from _ _ both.0 (staged_fit params cs both.1))
  | inr ne ↦ rw ne (and_from _ _ both.0 (staged_fit params cs both.1))
]

-- the first refusal of rows, in parts
pub no_refusal : (params : Params) (h : History) (rows : List Row) → first_refusal params h rows ≡ None
    → (nat_lt params.events (event_count h + length (flat rows) + 1) ≡ false) × (first_refused_row params (changes h) [] 1 rows ≡ None)
no_refusal params h rows none = none_if _ (refused_at 0 Events) _ none

none_from : (params : Params) (h : History) (rows other : List Row) → flat other ≡ flat rows → first_refusal params h rows ≡ None
    → first_refused_row params (changes h) [] 1 other ≡ None → first_refusal params h other ≡ None
none_from params h rows other same none go =
    if_none _ (refused_at 0 Events) _ (ap (λ (cs : List Change). nat_lt params.events (event_count h + length cs + 1)) same ∙ (no_refusal params h rows none).0) go

pub staged_none : (params : Params) (h : History) (rows : List Row) → first_refusal params h rows ≡ None → first_refusal params h (staged_rows (flat rows)) ≡ None
staged_none params h rows none =
    none_from params h rows (staged_rows (flat rows)) (flat_staged (flat rows)) none
    (staged_go params (changes h) [] 1 (flat rows) (all_go params (changes h) [] 1 rows (no_refusal params h rows none).1))

pub staging : (params : Params) (h : History) (batch : List Change) → (first_refusal params h (map as_row batch) ≡ None) ↔ (first_refusal params h (staged_rows batch) ≡ None)
staging params h batch = (
  λ none. subst (λ (cs : List Change). first_refusal params h (staged_rows cs) ≡ None) (flat_one_by_one batch) (staged_none params h (map as_row batch) none),
  λ none.
      let go = all_go params (changes h) [] 1 (staged_rows batch) (no_refusal params h (staged_rows batch) none).1 in
      none_from params h (staged_rows batch) (map as_row batch) (flat_one_by_one batch ∙ sym (flat_staged batch)) none
      (one_by_one params (changes h) [] 1 batch (subst (λ (cs : List Change). GoAll params (changes h) [] cs) (flat_staged batch) go)),
)

pub accepted : (params : Params) (h : History) (rows : List Row) → IsTrue (list_all (row_fits params) rows) → length rows ≤ 4096 → first_refusal params h rows ≡ None → IsLawfulBatch params h (flat rows)
accepted params h rows fit most none = record {
  fits = staged_fit params (flat rows) (changes_fit params rows fit);
  size = le-leb (length (staged_rows (flat rows))) 4096 (omega (arith, fewest_rows rows));
  accepted = rw (staged_none params h rows none) refl;
}

lawful_after : (params : Params) (before h : History) (batch : List Change) → AreLawfulAfter params before h → IsLawfulBatch params (before ++ h) batch → AreLawfulAfter params before (h ++ batch ∷ [])
lawful_after params before [] batch l one = (subst (λ (k : History). IsLawfulBatch params k batch) (append-nil before) one, tt)
lawful_after params before (b ∷ bs) batch l one =
    (l.0, lawful_after params (before ++ b ∷ []) bs batch l.1 (subst (λ (k : History). IsLawfulBatch params k batch) (sym (append_assoc before (b ∷ []) bs)) one))

pub grows : (params : Params) (h : History) (batch : List Change) → IsLawful params h → IsLawfulBatch params h batch → IsLawful params (h ++ batch ∷ [])
grows params h batch l one = lawful_after params [] h batch l one

lawful_front : (params : Params) (before h later : History) → AreLawfulAfter params before (h ++ later) → AreLawfulAfter params before h
lawful_front params before [] later l = tt
lawful_front params before (b ∷ bs) later l = (l.0, lawful_front params (before ++ b ∷ []) bs later l.1)

pub begins : (params : Params) (h later : History) → IsLawful params (h ++ later) → IsLawful params h
begins params h later l = lawful_front params [] h later l
