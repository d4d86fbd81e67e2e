-- The order of a node's entries, and the path of a key through them.
use Rattle.std.proofs.Common.{◌≡◌, ℕ, zero, suc, ◌+◌, ◌<◌, ◌≤◌, List, [], ◌∷◌, ◌++◌, length, get_or, take, drop, refl, sym, ap, ◌∙◌, subst, arith, drop-cons}
use Rattle.std.specs.List.{All, AllAdjacentBelow}
use Rattle.std.proofs.lemmas.List.{get_or-take, length-take, take-append-drop, drop_all}
use Rattle.std.proofs.lemmas.List.Elements.{All-cons, All-nil}
use Rattle.page_layout.specs.declared.life_node.LifeEntry.{LifeEntry}
use Rattle.object_table.specs.Keys.{low_key, AscendBy}
use Rattle.object_table.specs.Damage.{GoesBy}
use Rattle.object_table.specs.Steps.{IsCut}
use Rattle.object_table.specs.Stands.{first_low, EachStands}
use Rattle.object_table.proofs.Searching.{All-head, All-tail}

-- each entry begins below all after it
abbrev pub Ascends : List LifeEntry → Type 0
Ascends entries = AscendBy low_key entries

adjacent_tail : (e : LifeEntry) (es : List LifeEntry) → AllAdjacentBelow (λ e next. low_key e < low_key next) (e ∷ es) (length (e ∷ es))
    → AllAdjacentBelow (λ e next. low_key e < low_key next) es (length es)
adjacent_tail e es adj = λ k d h.
    let place : suc k + 1 ≡ suc (k + 1) = omega arith in
    subst (λ (j : ℕ). low_key (get_or (e ∷ es) (suc k) d) < low_key (get_or (e ∷ es) j d)) place (adj (suc k) d (omega (arith, h)))

above_first : (e : LifeEntry) (es : List LifeEntry) → AllAdjacentBelow (λ e next. low_key e < low_key next) (e ∷ es) (length (e ∷ es)) → Ascends es → All (λ f. low_key e < low_key f) es
above_first e [] adj rest = All-nil (λ (f : LifeEntry). low_key e < low_key f)
above_first e (f ∷ fs) adj rest =
    let first : low_key e < low_key f = adj 0 e (omega arith) in
    All-cons (λ (x : LifeEntry). low_key e < low_key x) f fs first (λ k d h. omega (arith, first, rest.0 k d h))

pub ascends : (es : List LifeEntry) → AllAdjacentBelow (λ e next. low_key e < low_key next) es (length es) → Ascends es
ascends [] adj = tt
ascends (e ∷ es) adj =
    let rest = ascends es (adjacent_tail e es adj) in
    (above_first e es adj rest, rest)

pub first_low-append : (xs ys : List LifeEntry) (high : ℕ) → first_low (xs ++ ys) high ≡ first_low xs (first_low ys high)
first_low-append [] ys high = refl
first_low-append (x ∷ xs) ys high = refl

pub first_low-later : (es : List LifeEntry) (v high : ℕ) → All (λ e. v < low_key e) es → v < high → v < first_low es high
first_low-later [] v high all below = below
first_low-later (e ∷ es) v high all below = All-head (λ (e : LifeEntry). v < low_key e) e es all

pub EachStands-split : (stands : LifeEntry → ℕ → Type 0) (xs ys : List LifeEntry) (high : ℕ)
    → EachStands stands (xs ++ ys) high → EachStands stands xs (first_low ys high) × EachStands stands ys high
EachStands-split stands [] ys high each = (tt, each)
EachStands-split stands (x ∷ xs) ys high each =
    let rest = EachStands-split stands xs ys high each.1 in
    ((subst (λ (h : ℕ). stands x h) (first_low-append xs ys high) each.0, rest.0), rest.1)

pub EachStands-join : (stands : LifeEntry → ℕ → Type 0) (xs ys : List LifeEntry) (high : ℕ)
    → EachStands stands xs (first_low ys high) → EachStands stands ys high → EachStands stands (xs ++ ys) high
EachStands-join stands [] ys high first rest = rest
EachStands-join stands (x ∷ xs) ys high first rest =
    (subst (λ (h : ℕ). stands x h) (sym (first_low-append xs ys high)) first.0, EachStands-join stands xs ys high first.1 rest)

-- what the entries before the path's, the path's entry and those after it stand for
pub EachStands-path : (stands : LifeEntry → ℕ → Type 0) (es before : List LifeEntry) (at : LifeEntry) (after : List LifeEntry) (high : ℕ)
    → es ≡ before ++ (at ∷ after) → EachStands stands es high
    → EachStands stands before (low_key at) × (stands at (first_low after high) × EachStands stands after high)
EachStands-path stands es before at after high whole each =
    EachStands-split stands before (at ∷ after) high (subst (λ (es : List LifeEntry). EachStands stands es high) whole each)

pub first_low-at : (es : List LifeEntry) (k high : ℕ) (d : LifeEntry) → k < length es → first_low (drop k es) high ≡ low_key (get_or es k d)
first_low-at es k high d h = ap (λ xs. first_low xs high) (drop-cons es k d h)

pub first_low-past : (es : List LifeEntry) (k high : ℕ) → length es ≤ k → first_low (drop k es) high ≡ high
first_low-past es k high h = ap (λ xs. first_low xs high) (drop_all k es h)

-- at the cut, the last of the entries that have begun
pub GoesBy-cut : (entries : List LifeEntry) (k v : ℕ) (d : LifeEntry) → IsCut entries (suc k) v
    → GoesBy entries (take k entries) (get_or entries k d) (drop (suc k) entries) v
GoesBy-cut entries k v d c = record {
  whole = sym (take-append-drop k entries) ∙ ap (λ es. take k entries ++ es) (drop-cons entries k d (omega (arith, c.bound)));
  begun = λ j e h.
      let same : get_or (take (suc k) entries) j e ≡ get_or entries j e = get_or-take (suc k) entries j e (omega (arith, length-take k entries)) in
      let same2 : get_or (take k entries) j e ≡ get_or entries j e = get_or-take k entries j e (omega (arith, length-take k entries)) in
      let b = c.begun j e (omega (arith, length-take k entries, length-take (suc k) entries, c.bound)) in
      rw same2 (subst (λ (x : LifeEntry). low_key x ≤ v) same b);
  here =
      let same : get_or (take (suc k) entries) k d ≡ get_or entries k d = get_or-take (suc k) entries k d (omega arith) in
      let b = c.begun k d (omega (arith, length-take (suc k) entries, c.bound)) in
      subst (λ (x : LifeEntry). low_key x ≤ v) same b;
  later = c.later;
}

-- Where the first entry begins at or below the key, some have begun.
pub some_begun : (entries : List LifeEntry) (k v high : ℕ) → IsCut entries k v → 1 ≤ length entries → first_low entries high ≤ v → 1 ≤ k
some_begun [] k v high c some first = absurd (omega arith)
some_begun (e ∷ es) zero v high c some first =
    let later = All-head (λ (e : LifeEntry). v < low_key e) e es c.later in
    absurd (omega (arith, later, first))
some_begun (e ∷ es) (suc k) v high c some first = omega arith

-- the entries after the path's begin above it
pub after_ascends : (before : List LifeEntry) (at : LifeEntry) (after : List LifeEntry) → Ascends (before ++ (at ∷ after)) → Ascends (at ∷ after)
after_ascends [] at after a = a
after_ascends (b ∷ before) at after a = after_ascends before at after a.1

pub All-left : {X : Type 0} (P : X → Type 0) (xs ys : List X) → All P (xs ++ ys) → All P xs
All-left P [] ys all = All-nil P
All-left P (x ∷ xs) ys all = All-cons P x xs (All-head P x (xs ++ ys) all) (All-left P xs ys (All-tail P x (xs ++ ys) all))

pub All-right : {X : Type 0} (P : X → Type 0) (xs ys : List X) → All P (xs ++ ys) → All P ys
All-right P [] ys all = all
All-right P (x ∷ xs) ys all = All-right P xs ys (All-tail P x (xs ++ ys) all)

pub All-join : {X : Type 0} (P : X → Type 0) (xs ys : List X) → All P xs → All P ys → All P (xs ++ ys)
All-join P [] ys first rest = rest
All-join P (x ∷ xs) ys first rest = All-cons P x (xs ++ ys) (All-head P x xs first) (All-join P xs ys (All-tail P x xs first) rest)

pub before_ascends : (xs ys : List LifeEntry) → Ascends (xs ++ ys) → Ascends xs
before_ascends [] ys a = tt
before_ascends (x ∷ xs) ys a = (All-left (λ (f : LifeEntry). low_key x < low_key f) xs ys a.0, before_ascends xs ys a.1)

-- the entries before the path's begin below it
pub before_below : (before : List LifeEntry) (at : LifeEntry) (after : List LifeEntry) → Ascends (before ++ (at ∷ after)) → All (λ e. low_key e < low_key at) before
before_below [] at after a = All-nil (λ (e : LifeEntry). low_key e < low_key at)
before_below (b ∷ before) at after a =
    let here : low_key b < low_key at = All-head (λ (f : LifeEntry). low_key b < low_key f) at after (All-right (λ (f : LifeEntry). low_key b < low_key f) before (at ∷ after) a.0) in
    All-cons (λ (e : LifeEntry). low_key e < low_key at) b before here (before_below before at after a.1)

-- the entries come from `low` on, where the first begins there
pub all_from : (es : List LifeEntry) (low high : ℕ) → Ascends es → first_low es high ≡ low → All (λ e. low ≤ low_key e) es
all_from [] low high a first = All-nil (λ (e : LifeEntry). low ≤ low_key e)
all_from (e ∷ es) low high a first = All-cons (λ (f : LifeEntry). low ≤ low_key f) e es (omega (arith, first)) (λ k d h. omega (arith, first, a.0 k d h))

-- the next low is above the first, and at most the end
pub first_low-above : (e : LifeEntry) (es : List LifeEntry) (high : ℕ) → Ascends (e ∷ es) → low_key e < high → low_key e < first_low es high
first_low-above e [] high a below = below
first_low-above e (f ∷ fs) high a below = All-head (λ (f : LifeEntry). low_key e < low_key f) f fs a.0

pub first_low-within : (es : List LifeEntry) (high : ℕ) → All (λ e. low_key e < high) es → first_low es high ≤ high
first_low-within [] high ends = omega arith
first_low-within (f ∷ fs) high ends =
    let here : low_key f < high = All-head (λ (f : LifeEntry). low_key f < high) f fs ends in
    omega (arith, here)
