-- Objects in pieces of 4096, each a batch of adds.
use Rattle.std.proofs.Common.{◌≡◌, ℕ, zero, suc, ◌+◌, ◌-◌, ◌*◌, ◌≤◌, true, false, nat_lt, List, [], ◌∷◌, ◌++◌, None, length, map, take, drop, refl, sym, ◌∙◌, ap, subst, arith, append_assoc}
use Rattle.std.proofs.lemmas.Bool.{and_from, le-leb, le-ltb}
use Rattle.std.proofs.lemmas.List.{append-nil, drop-drop, drop-take, length-append, length-map, length-take, length_push, map-append, take-append-drop, take-take, take_all}
use Rattle.std.proofs.lemmas.List.Elements.{All-drop, All-head, All-map, All-tail, All-take}
use Rattle.std.specs.List.{All, list_all, range_with_len}
use Rattle.bw_types.specs.Fits.{object_fits, row_fits}
use Rattle.bw_types.specs.History.{History, changes, event_count, flat, live}
use Rattle.bw_types.specs.Lawful.{AreLawfulAfter, IsLawfulBatch, staged_rows}
use Rattle.bw_types.specs.Refusals.{first_refused_row}
use Rattle.bw_types.specs.declared.change.Change.{Change}
use Rattle.bw_types.specs.declared.change.Change.TheVariants as change
use Rattle.bw_types.specs.declared.object.Object.{Object}
use Rattle.bw_types.specs.declared.params.Params.{Params}
use Rattle.history_laws.proofs.Staging.{GoAll, flat_staged}
use Rattle.compact_store.specs.Kept.{kept, kept_batch, most_adds}
use Rattle.compact_store.proofs.LaterBatches.{changes_with}

-- so many batches of adds, 4096 objects each
abbrev pub pieces : List Object → ℕ → History
pieces objects zero = []
pieces objects (suc n) = map change.Add (take most_adds objects) ∷ pieces (drop most_adds objects) n

-- the batches that are kept are pieces of the live objects
pieces_from : (h : History) (version first n : ℕ) → map (kept_batch h version) (range_with_len (first + 1) n) ≡ pieces (drop (most_adds * first) (live h version)) n
pieces_from h version first zero = refl
pieces_from h version first (suc n) =
    let objects : List Object = live h version in
    let one : kept_batch h version (first + 1) ≡ map change.Add (take most_adds (drop (most_adds * first) objects)) =
    ap (λ (k : ℕ). map change.Add (take most_adds (drop (most_adds * k) objects))) (let e : (first + 1) - 1 ≡ first = omega arith in e) in
    let rest : drop (most_adds * (first + 1)) objects ≡ drop most_adds (drop (most_adds * first) objects) =
    ap (λ (k : ℕ). drop k objects) (let e : most_adds * (first + 1) ≡ most_adds * first + most_adds = omega arith in e) ∙ sym (drop-drop most_adds (most_adds * first) objects) in
    ap (λ (b : List Change). b ∷ map (kept_batch h version) (range_with_len (first + 1 + 1) n)) one
    ∙ ap (λ (bs : History). map change.Add (take most_adds (drop (most_adds * first) objects)) ∷ bs)
    (pieces_from h version (first + 1) n ∙ ap (λ (os : List Object). pieces os n) rest)

-- what is kept: pieces of the objects live at the version, and then the later batches
pub kept_is : (h : History) (version : ℕ) → kept h version ≡ pieces (live h version) version ++ drop version h
kept_is h version = ap (λ (bs : History). bs ++ drop version h) (pieces_from h version 0 version)

-- there are so many batches
pub pieces_length : (objects : List Object) (n : ℕ) → length (pieces objects n) ≡ n
pieces_length objects zero = refl
pieces_length objects (suc n) = omega (arith, pieces_length (drop most_adds objects) n)

-- a front of a list in two
take_in_two : {X : Type 0} (m n : ℕ) (xs : List X) → take (m + n) xs ≡ take m xs ++ take n (drop m xs)
take_in_two m n xs =
    sym (take-append-drop m (take (m + n) xs))
    ∙ (ap (λ ys. ys ++ drop m (take (m + n) xs)) (take-take m (m + n) xs (omega arith)) ∙ ap (λ ys. take m xs ++ ys) (drop-take m n xs))

-- together they add the objects in their order, as many as there is room for
pub pieces_joined : (objects : List Object) (n : ℕ) → changes (pieces objects n) ≡ map change.Add (take (most_adds * n) objects)
pieces_joined objects zero = refl
pieces_joined objects (suc n) =
    let size : most_adds * suc n ≡ most_adds + most_adds * n = omega arith in
    ap (λ (cs : List Change). map change.Add (take most_adds objects) ++ cs) (pieces_joined (drop most_adds objects) n)
    ∙ (sym (map-append change.Add (take most_adds objects) (take (most_adds * n) (drop most_adds objects)))
    ∙ ap (map change.Add) (sym (take_in_two most_adds (most_adds * n) objects) ∙ ap (λ (k : ℕ). take k objects) (sym size)))

-- all of the objects, where the batches have room for them
pub pieces_whole : (objects : List Object) (n : ℕ) → length objects ≤ most_adds * n → changes (pieces objects n) ≡ map change.Add objects
pieces_whole objects n few = pieces_joined objects n ∙ ap (map change.Add) (take_all (most_adds * n) objects few)

-- what is so of each add of the objects is so of each change of the pieces
pub pieces_all : (P : Change → Type 0) (objects : List Object) (n : ℕ) → All (λ (o : Object). P (change.Add o)) objects → All P (changes (pieces objects n))
pieces_all P objects n all =
    subst (λ (cs : List Change). All P cs) (sym (pieces_joined objects n))
    (All-map P change.Add (take (most_adds * n) objects) (All-take (λ (o : Object). P (change.Add o)) (most_adds * n) objects all))

-- adds in two
pub go_in_two : (params : Params) (past batch cs ds : List Change) → GoAll params past batch (cs ++ ds) → GoAll params past batch cs × GoAll params past (batch ++ cs) ds
go_in_two params past batch [] ds go = (tt, subst (λ (b : List Change). GoAll params past b ds) (sym (append-nil batch)) go)
go_in_two params past batch (c ∷ cs) ds go =
    let rest = go_in_two params past (batch ++ c ∷ []) cs ds go.1 in
    ((go.0, rest.0), subst (λ (b : List Change). GoAll params past b ds) (append_assoc batch (c ∷ []) cs) rest.1)

-- adds without a reason against them are rows without a refusal
adds_accepted : (params : Params) (past batch : List Change) (place : ℕ) (objects : List Object) → GoAll params [] (past ++ batch) (map change.Add objects)
    → first_refused_row params past batch place (staged_rows (map change.Add objects)) ≡ None
adds_accepted params past batch place [] go = refl
adds_accepted params past batch place (o ∷ objects) go =
    rw go.0
    (adds_accepted params past (batch ++ change.Add o ∷ []) (place + 1) objects
    (subst (λ (cs : List Change). GoAll params [] cs (map change.Add objects)) (append_assoc past batch (change.Add o ∷ [])) go.1))

-- adds of objects that fit are rows that fit
adds_fit : (params : Params) (objects : List Object) → All (λ (o : Object). object_fits params o ≡ true) objects → list_all (row_fits params) (staged_rows (map change.Add objects)) ≡ true
adds_fit params [] fit = refl
adds_fit params (o ∷ objects) fit =
    and_from _ _ (All-head (λ (p : Object). object_fits params p ≡ true) o objects fit) (adds_fit params objects (All-tail (λ (p : Object). object_fits params p ≡ true) o objects fit))

-- each add is a row
adds_rows : (objects : List Object) → length (staged_rows (map change.Add objects)) ≡ length objects
adds_rows [] = refl
adds_rows (o ∷ objects) = omega (arith, adds_rows objects)

-- a batch of adds
adds_lawful : (params : Params) (before : History) (objects : List Object) → All (λ (o : Object). object_fits params o ≡ true) objects → length objects ≤ most_adds
    → event_count before + length objects + 1 ≤ params.events → GoAll params [] (changes before) (map change.Add objects) → IsLawfulBatch params before (map change.Add objects)
adds_lawful params before objects fit few room go =
    let adds : List Change = map change.Add objects in
    let counted : length (flat (staged_rows adds)) ≡ length objects = ap length (flat_staged adds) ∙ length-map objects change.Add in
    let events : nat_lt params.events (event_count before + length (flat (staged_rows adds)) + 1) ≡ false = le-ltb params.events _ (omega (arith, counted, room)) in
    let rows = adds_accepted params (changes before) [] 1 objects (subst (λ (cs : List Change). GoAll params [] cs adds) (sym (append-nil (changes before))) go) in
    record { fits = adds_fit params objects fit; size = le-leb (length (staged_rows adds)) 4096 (omega (arith, adds_rows objects, few)); accepted = rw (events, rows) refl }

-- the pieces are lawful batches
pub pieces_lawful : (params : Params) (before : History) (objects : List Object) (n : ℕ) → All (λ (o : Object). object_fits params o ≡ true) objects
    → event_count before + length objects + n ≤ params.events → GoAll params [] (changes before) (map change.Add objects) → AreLawfulAfter params before (pieces objects n)
pieces_lawful params before objects zero fit room go = tt
pieces_lawful params before objects (suc n) fit room go =
    let front : List Object = take most_adds objects in
    let rest : List Object = drop most_adds objects in
    let Fits : Object → Type 0 = λ o. object_fits params o ≡ true in
    let joined : map change.Add objects ≡ map change.Add front ++ map change.Add rest = ap (map change.Add) (sym (take-append-drop most_adds objects)) ∙ map-append change.Add front rest in
    let parts = go_in_two params [] (changes before) (map change.Add front) (map change.Add rest) (subst (λ (cs : List Change). GoAll params [] (changes before) cs) joined go) in
    let sizes : length objects ≡ length front + length rest = ap length (sym (take-append-drop most_adds objects)) ∙ length-append front rest in
    let few : length front ≤ most_adds = front_few most_adds objects in
    let with_front : changes (before ++ map change.Add front ∷ []) ≡ changes before ++ map change.Add front = changes_with before (map change.Add front) in
    let counted : length (changes (before ++ map change.Add front ∷ [])) ≡ length (changes before) + length front =
    ap length with_front ∙ (length-append (changes before) (map change.Add front) ∙ ap (λ (k : ℕ). length (changes before) + k) (length-map front change.Add)) in (
      adds_lawful params before front (All-take Fits most_adds objects fit) few (omega (arith, sizes, room)) parts.0,
      pieces_lawful params (before ++ map change.Add front ∷ []) rest n (All-drop Fits most_adds objects fit)
          (omega (arith, sizes, room, counted, length_push before (map change.Add front)))
          (subst (λ (cs : List Change). GoAll params [] cs (map change.Add rest)) (sym with_front) parts.1),
    )
  where
    front_few : (k : ℕ) (os : List Object) → length (take k os) ≤ k
    front_few k os = omega (arith, length-take k os)
