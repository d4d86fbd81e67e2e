-- What is so of the changes of a lawful history: the objects fit, and a batch adds 4096 at most.
use Rattle.std.proofs.Common.{◌≡◌, ℕ, ◌+◌, ◌*◌, ◌≤◌, true, false, List, [], ◌∷◌, ◌++◌, length, refl, subst, arith, if◌then◌else◌}
use Rattle.std.proofs.lemmas.Bool.{and_parts, leb-true}
use Rattle.std.proofs.lemmas.List.Elements.{All-append, All-cons, All-head, All-nil, All-tail}
use Rattle.std.specs.List.{All, list_all, list_any}
use Rattle.bw_types.specs.Fits.{row_fits}
use Rattle.bw_types.specs.History.{History, changes, flat, flat_row, live_of, withdraws}
use Rattle.bw_types.specs.Lawful.{AreLawfulAfter, as_row, staged_rows}
use Rattle.bw_types.specs.declared.change.Change.{Change}
use Rattle.bw_types.specs.declared.change.Change.TheVariants as change
use Rattle.bw_types.specs.declared.object.Object.{Object}
use Rattle.bw_types.specs.declared.params.Params.{Params}
use Rattle.bw_types.specs.declared.row.Row.{Row}
use Rattle.bw_types.specs.declared.row.Row.TheVariants as row
use Rattle.history_laws.proofs.Staging.{flat_staged}
use Rattle.compact_store.specs.Kept.{most_adds}

-- what is so of each change is so of the adds of the live objects
pub live_all : (P : Change → Type 0) (cs : List Change) → All P cs → All (λ (o : Object). P (change.Add o)) (live_of cs)
live_all P [] all = All-nil (λ (o : Object). P (change.Add o))
live_all P (change.Withdraw id ∷ cs) all = live_all P cs (All-tail P (change.Withdraw id) cs all)
live_all P (change.Add o ∷ cs) all =
    let rest = live_all P cs (All-tail P (change.Add o) cs all) in
    elim (list_any (withdraws o.id) cs) as (λ b. All (λ (p : Object). P (change.Add p)) (if b then live_of cs else o ∷ live_of cs)) [
      | true ↦ rest
      | false ↦ All-cons (λ (p : Object). P (change.Add p)) o (live_of cs) (All-head P (change.Add o) cs all) rest
    ]

-- a change fits where a row that stages it does
abbrev pub ChangeFits : Params → Change → Type 0
ChangeFits params c = row_fits params (as_row c) ≡ true

-- the changes of a row that fits do
row_changes_fit : (params : Params) (r : Row) → row_fits params r ≡ true → All (ChangeFits params) (flat_row r)
row_changes_fit params (row.Add o) fit = All-cons (ChangeFits params) (change.Add o) [] fit (All-nil (ChangeFits params))
row_changes_fit params (row.Withdraw id) fit = All-cons (ChangeFits params) (change.Withdraw id) [] refl (All-nil (ChangeFits params))
row_changes_fit params (row.Move o) fit =
    All-cons (ChangeFits params) (change.Withdraw o.id) (change.Add o ∷ []) refl (All-cons (ChangeFits params) (change.Add o) [] fit (All-nil (ChangeFits params)))

-- and those of rows that fit
rows_changes_fit : (params : Params) (rows : List Row) → list_all (row_fits params) rows ≡ true → All (ChangeFits params) (flat rows)
rows_changes_fit params [] fit = All-nil (ChangeFits params)
rows_changes_fit params (r ∷ rows) fit =
    let parts = and_parts _ _ fit in
    All-append (ChangeFits params) (flat_row r) (flat rows) (row_changes_fit params r parts.0) (rows_changes_fit params rows parts.1)

-- and those of lawful batches
pub changes_fit : (params : Params) (before h : History) → AreLawfulAfter params before h → All (ChangeFits params) (changes h)
changes_fit params before [] lawful = All-nil (ChangeFits params)
changes_fit params before (batch ∷ later) lawful =
    let own = subst (λ (cs : List Change). All (ChangeFits params) cs) (flat_staged batch) (rows_changes_fit params (staged_rows batch) lawful.0.fits) in
    All-append (ChangeFits params) batch (changes later) own (changes_fit params (before ++ batch ∷ []) later lawful.1)

-- how many adds there are
abbrev add_count : List Change → ℕ
add_count [] = 0
add_count (change.Add o ∷ cs) = 1 + add_count cs
add_count (change.Withdraw id ∷ cs) = add_count cs

-- the adds of two lists
adds_together : (cs ds : List Change) → add_count (cs ++ ds) ≡ add_count cs + add_count ds
adds_together [] ds = omega arith
adds_together (change.Add o ∷ cs) ds = omega (arith, adds_together cs ds)
adds_together (change.Withdraw id ∷ cs) ds = adds_together cs ds

-- no more objects are live than were added
live_few : (cs : List Change) → length (live_of cs) ≤ add_count cs
live_few [] = omega arith
live_few (change.Withdraw id ∷ cs) = live_few cs
live_few (change.Add o ∷ cs) =
    elim (list_any (withdraws o.id) cs) as (λ b. length (if b then live_of cs else o ∷ live_of cs) ≤ 1 + add_count cs) [
      | true ↦ omega (arith, live_few cs)
      | false ↦ omega (arith, live_few cs)
    ]

-- a row adds one at most
row_adds : (r : Row) → add_count (flat_row r) ≤ 1
row_adds (row.Add o) = omega arith
row_adds (row.Withdraw id) = omega arith
row_adds (row.Move o) = omega arith

-- rows add no more than one each
rows_add : (rows : List Row) → add_count (flat rows) ≤ length rows
rows_add [] = omega arith
rows_add (r ∷ rows) = omega (arith, row_adds r, rows_add rows, adds_together (flat_row r) (flat rows))

-- lawful batches add no more than 4096 each
batches_add : (params : Params) (before h : History) → AreLawfulAfter params before h → add_count (changes h) ≤ most_adds * length h
batches_add params before [] lawful = omega arith
batches_add params before (batch ∷ later) lawful =
    let own : add_count batch ≤ length (staged_rows batch) = subst (λ (cs : List Change). add_count cs ≤ length (staged_rows batch)) (flat_staged batch) (rows_add (staged_rows batch)) in
    let most : length (staged_rows batch) ≤ 4096 = leb-true (length (staged_rows batch)) 4096 lawful.0.size in
    omega (arith, own, most, adds_together batch (changes later), batches_add params (before ++ batch ∷ []) later lawful.1)

-- a lawful history leaves no more objects live than its batches have room for
pub live_bounded : (params : Params) (before h : History) → AreLawfulAfter params before h → length (live_of (changes h)) ≤ most_adds * length h
live_bounded params before h lawful = omega (arith, live_few (changes h), batches_add params before h lawful)
