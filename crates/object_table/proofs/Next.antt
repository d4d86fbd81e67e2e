-- A list of first lives that ascends, gone through one object after another.
use Rattle.std.proofs.Common.{◌≡◌, ℕ, zero, suc, ◌+◌, ◌<◌, ◌==◌, nat_le, nat_lt, true, false, List, [], ◌∷◌, ◌++◌, length, take, reverse, Option, Some, None, refl, sym, ap, ◌∙◌, subst, arith}
use Rattle.std.specs.List.{All, filter, find, slice_get}
use Rattle.std.specs.Option.{option_or}
use Rattle.std.proofs.lemmas.Bool.{lt-leb, le-leb, lt-ltb, le-ltb, ne_eqb}
use Rattle.std.proofs.lemmas.List.{reverse-append, take_more}
use Rattle.std.proofs.lemmas.List.Elements.{All-cons, All-head, All-nil, All-tail}
use Rattle.std.proofs.lemmas.List.Folds.{find-append}
use Rattle.std.proofs.lemmas.Option.{get_or_from_slice_get, none-some, same_Some, slice_get_within}
use Rattle.bw_types.specs.declared.dated.Dated.{Dated}
use Rattle.object_table.specs.Edits.{IsNewLife, with_object}
use Rattle.object_table.specs.Keys.{key}
use Rattle.object_table.specs.Laws.{Ascend}
use Rattle.object_table.specs.Lives.{first_from, from_id, last_life}

abbrev pub AreFirst : List Dated → Type 0
AreFirst lives = All (λ d. d.life ≡ 1) lives

-- Of first lives a greater key is one of a later id.
later_id : (x d : Dated) → x.life ≡ 1 → d.life ≡ 1 → key x < key d → x.object.id < d.object.id
later_id x d one_x one_d less = omega arith

-- From after an id on, the first of the objects above it comes.
first_above : (x : Dated) (lives : List Dated) → All (λ d. key x < key d) lives → x.life ≡ 1 → AreFirst lives → first_from (from_id (Some x.object.id)) lives ≡ slice_get lives 0
first_above x [] above one first = refl
first_above x (d ∷ ds) above one first =
    let later = later_id x d one (All-head (λ (e : Dated). e.life ≡ 1) d ds first) (All-head (λ (e : Dated). key x < key e) d ds above) in
    let here : nat_le (from_id (Some x.object.id)) (key d) ≡ true = le-leb (from_id (Some x.object.id)) (key d) (omega (arith, later)) in
    rw here refl

at_above : (x : Dated) (lives : List Dated) (i : ℕ) (d : Dated) → All (λ d. key x < key d) lives → slice_get lives i ≡ Some d → key x < key d
at_above x lives i d above at = subst (λ (e : Dated). key x < key e) (get_or_from_slice_get lives i d d at) (above i d (slice_get_within lives i d at))

at_one : (lives : List Dated) (i : ℕ) (d : Dated) → AreFirst lives → slice_get lives i ≡ Some d → d.life ≡ 1
at_one lives i d first at = subst (λ (e : Dated). e.life ≡ 1) (get_or_from_slice_get lives i d d at) (first i d (slice_get_within lives i d at))

next_of : (lives : List Dated) (i : ℕ) (d : Dated) → Ascend lives → AreFirst lives → slice_get lives i ≡ Some d → first_from (from_id (Some d.object.id)) lives ≡ slice_get lives (suc i)
next_of [] i d asc first at = absurd (none-some d at)
next_of (x ∷ xs) zero d asc first at =
    let same : x ≡ d = same_Some x d at in
    let one = All-head (λ (e : Dated). e.life ≡ 1) x xs first in
    let past : nat_le (from_id (Some x.object.id)) (key x) ≡ false = lt-leb (from_id (Some x.object.id)) (key x) (omega (arith, one)) in
    subst (λ (e : Dated). first_from (from_id (Some e.object.id)) (x ∷ xs) ≡ slice_get xs 0) same
    (rw past (first_above x xs asc.0 one (All-tail (λ (e : Dated). e.life ≡ 1) x xs first)))
next_of (x ∷ xs) (suc i) d asc first at =
    let rest = All-tail (λ (e : Dated). e.life ≡ 1) x xs first in
    let less = at_above x xs i d asc.0 at in
    let past : nat_le (from_id (Some d.object.id)) (key x) ≡ false =
    lt-leb (from_id (Some d.object.id)) (key x) (omega (arith, less, at_one xs i d rest at)) in
    rw past (next_of xs i d asc.1 rest at)

-- From after an object on, the next one comes.
pub next_object : (lives : List Dated) (i : ℕ) (d : Dated) → Ascend lives → AreFirst lives → slice_get lives i ≡ Some d → first_from (from_id (Some d.object.id)) lives ≡ slice_get lives (i + 1)
next_object lives i d asc first at =
    let step : suc i ≡ i + 1 = omega arith in
    next_of lives i d asc first at ∙ ap (λ (k : ℕ). slice_get lives k) step

-- From the least key on, the first of all comes.
pub first_object : (lives : List Dated) → first_from (from_id None) lives ≡ slice_get lives 0
first_object [] = refl
first_object (x ∷ xs) =
    let here : nat_le 0 (key x) ≡ true = le-leb 0 (key x) (omega arith) in
    rw here refl

-- The objects before one are below it.
taken_below : (lives : List Dated) (i : ℕ) (d : Dated) → Ascend lives → slice_get lives i ≡ Some d → All (λ e. key e < key d) (take i lives)
taken_below [] i d asc at = absurd (none-some d at)
taken_below (x ∷ xs) zero d asc at = All-nil (λ (e : Dated). key e < key d)
taken_below (x ∷ xs) (suc i) d asc at =
    All-cons (λ (e : Dated). key e < key d) x (take i xs) (at_above x xs i d asc.0 at) (taken_below xs i d asc.1 at)

taken_other : (lives : List Dated) (i : ℕ) (d : Dated) → Ascend lives → AreFirst lives → slice_get lives i ≡ Some d → All (λ e. (e.object.id == d.object.id) ≡ false) (take i lives)
taken_other [] i d asc first at = absurd (none-some d at)
taken_other (x ∷ xs) zero d asc first at = All-nil (λ (e : Dated). (e.object.id == d.object.id) ≡ false)
taken_other (x ∷ xs) (suc i) d asc first at =
    let rest = All-tail (λ (e : Dated). e.life ≡ 1) x xs first in
    let later = later_id x d (All-head (λ (e : Dated). e.life ≡ 1) x xs first) (at_one xs i d rest at) (at_above x xs i d asc.0 at) in
    All-cons (λ (e : Dated). (e.object.id == d.object.id) ≡ false) x (take i xs) (ne_eqb x.object.id d.object.id (λ e. omega (arith, e, later)))
    (taken_other xs i d asc.1 rest at)

below_kept : (k : ℕ) (ds : List Dated) → All (λ d. key d < k) ds → filter (λ d. nat_lt (key d) k) ds ≡ ds
below_kept k [] all = refl
below_kept k (d ∷ ds) all =
    let here : nat_lt (key d) k ≡ true = lt-ltb (key d) k (All-head (λ (d : Dated). key d < k) d ds all) in
    rw here (ap (λ (es : List Dated). d ∷ es) (below_kept k ds (All-tail (λ (d : Dated). key d < k) d ds all)))

above_none : (k : ℕ) (ds : List Dated) → All (λ d. key d < k) ds → filter (λ d. nat_lt k (key d)) ds ≡ []
above_none k [] all = refl
above_none k (d ∷ ds) all =
    let here : nat_lt k (key d) ≡ false = le-ltb k (key d) (omega (arith, All-head (λ (d : Dated). key d < k) d ds all)) in
    rw here (above_none k ds (All-tail (λ (d : Dated). key d < k) d ds all))

-- The objects before one, with this one, are those before the next.
pub with_next : (lives : List Dated) (i : ℕ) (d : Dated) → Ascend lives → slice_get lives i ≡ Some d → with_object d (take i lives) ≡ take (i + 1) lives
with_next lives i d asc at =
    let below = taken_below lives i d asc at in
    let less = below_kept (key d) (take i lives) below in
    let more = above_none (key d) (take i lives) below in
    ap (λ (ds : List Dated). ds ++ (d ∷ filter (λ (e : Dated). nat_lt (key d) (key e)) (take i lives))) less
    ∙ ap (λ (ds : List Dated). take i lives ++ (d ∷ ds)) more
    ∙ sym (take_more lives i d (slice_get_within lives i d at) ∙ ap (λ (e : Dated). take i lives ++ (e ∷ [])) (get_or_from_slice_get lives i d d at))

last_none : (id : ℕ) (ds : List Dated) → All (λ d. (d.object.id == id) ≡ false) ds → last_life id ds ≡ None
last_none id [] all = refl
last_none id (d ∷ ds) all =
    let other : (d.object.id == id) ≡ false = All-head (λ (d : Dated). (d.object.id == id) ≡ false) d ds all in
    let one : last_life id (d ∷ []) ≡ None = rw other refl in
    let whole : last_life id (d ∷ ds) ≡ option_or (last_life id ds) (last_life id (d ∷ [])) =
    ap (λ (es : List Dated). find (λ (d : Dated). d.object.id == id) es) (reverse-append (d ∷ []) ds) ∙ find-append (λ (d : Dated). d.object.id == id) (reverse ds) (reverse (d ∷ [])) in
    whole ∙ ap (λ (o : Option Dated). option_or o (last_life id (d ∷ []))) (last_none id ds (All-tail (λ (d : Dated). (d.object.id == id) ≡ false) d ds all)) ∙ one

-- None of the objects before one has its id.
pub next_is_new : (lives : List Dated) (i : ℕ) (d : Dated) → Ascend lives → AreFirst lives → slice_get lives i ≡ Some d → IsNewLife (take i lives) d
next_is_new lives i d asc first at = λ last found.
    absurd (none-some last (sym (last_none d.object.id (take i lives) (taken_other lives i d asc first at)) ∙ found))

-- Before the end of the list there is an object.
pub some_before : (lives : List Dated) (i : ℕ) → i < length lives → slice_get lives i ≡ None → ⊥
some_before [] i less none = omega (arith, less)
some_before (x ∷ xs) zero less none = cc
some_before (x ∷ xs) (suc i) less none = some_before xs i (omega (arith, less)) none
