-- The order of a node's entries.
use Rattle.sb_tree.proofs.Common.{All, AllAdjacentBelow, cases_lt, All-cons, All-nil, SbEntry, BeginLater, first_low, EachStands}
use Rattle.std.proofs.Common.{◌≡◌, ℕ, zero, suc, ◌+◌, ◌<◌, ◌≤◌, inl, inr, List, [], ◌∷◌, ◌++◌, length, get_or, refl, ap, arith, rules}
use Rattle.sb_tree.proofs.Paths.{GoesBy, All-head, All-tail}

-- each entry begins below all after it
abbrev pub Ascends : List SbEntry → Type 0
Ascends [] = Unit {0}
Ascends (e ∷ es) = All (λ f. e.low < f.low) es × Ascends es

adjacent_tail : (e : SbEntry) (es : List SbEntry) → AllAdjacentBelow (λ e next. e.low < next.low) (e ∷ es) (length (e ∷ es))
    → AllAdjacentBelow (λ e next. e.low < next.low) es (length es)
adjacent_tail e es adj = λ k d h.
    let place : suc k + 1 ≡ suc (k + 1) = omega arith in
    rw place at (adj (suc k) d (omega (arith, h)))

above_first : (e : SbEntry) (es : List SbEntry) → AllAdjacentBelow (λ e next. e.low < next.low) (e ∷ es) (length (e ∷ es)) → Ascends es → All (λ f. e.low < f.low) es
above_first e [] adj rest = All-nil _
above_first e (f ∷ fs) adj rest =
    let first : e.low < f.low = adj 0 e (omega arith) in
    All-cons (λ x. e.low < x.low) f fs first (λ k d h. omega (arith, first, rest.0 k d h))

pub ascends : (es : List SbEntry) → AllAdjacentBelow (λ e next. e.low < next.low) es (length es) → Ascends es
ascends [] adj = tt
ascends (e ∷ es) adj = search (rules, above_first, ascends es (adjacent_tail e es adj))

adjacent_at : (es : List SbEntry) → Ascends es → (k : ℕ) (d : SbEntry) → k + 1 < length es → (get_or es k d).low < (get_or es (k + 1) d).low
adjacent_at [] a k d h = absurd (omega (arith, h))
adjacent_at (e ∷ es) a zero d h = a.0 0 d (omega (arith, h))
adjacent_at (e ∷ es) a (suc k) d h = grind (arith, adjacent_at es a.1 k d (omega (arith, h)))

pub adjacent : (es : List SbEntry) → Ascends es → AllAdjacentBelow (λ e next. e.low < next.low) es (length es)
adjacent es a = λ k d h. adjacent_at es a k d h

pub All-left : {X : Type 0} (P : X → Type 0) (xs ys : List X) → All P (xs ++ ys) → All P xs
All-left P [] ys all = All-nil P
All-left P (x ∷ xs) ys all = grind (arith, All-head, All-left P xs ys (All-tail P x (xs ++ ys) all))

pub All-right : {X : Type 0} (P : X → Type 0) (xs ys : List X) → All P (xs ++ ys) → All P ys
All-right P [] ys all = all
All-right P (x ∷ xs) ys all = All-right P xs ys (All-tail P x (xs ++ ys) all)

-- The entries come from `low` on, where the first begins there.
pub all_from : (es : List SbEntry) (low high : ℕ) → Ascends es → first_low es high ≡ low → All (λ e. low ≤ e.low) es
all_from [] low high a first = All-nil _
all_from (e ∷ es) low high a first = grind arith

-- In entries in order that begin at or below the version, its path goes by one.
pub path_exists : (es : List SbEntry) (v high : ℕ) → Ascends es → 1 ≤ length es → first_low es high ≤ v
    → (before : List SbEntry) × (at : SbEntry) × (after : List SbEntry) × GoesBy es before at after v
path_exists [] v high a some first = absurd (omega (arith, some))
path_exists (e ∷ []) v high a some first = ([], e, [], record { whole = refl; begun = All-nil _; here = first; later = All-nil _ })
path_exists (e ∷ (f ∷ fs)) v high a some first = elim (cases_lt v f.low) [
  | inl above ↦ (
    [],
    e,
    f ∷ fs,
    record {
      whole = refl;
      begun = All-nil _;
      here = first;
      later = All-cons (λ e. v < e.low) f fs above (λ k d h. omega (arith, above, a.1.0 k d h));
    },
  )
  | inr below ↦
      let p = path_exists (f ∷ fs) v high a.1 (omega arith) below in (
        e ∷ p.0,
        p.1,
        p.2,
        record {
          whole = ap (λ es. e ∷ es) p.3.whole;
          begun = All-cons (λ e. e.low ≤ v) e p.0 first p.3.begun;
          here = p.3.here;
          later = p.3.later;
        },
      )
]

pub first_low-append : (xs ys : List SbEntry) (high : ℕ) → first_low (xs ++ ys) high ≡ first_low xs (first_low ys high)
first_low-append [] ys high = refl
first_low-append (x ∷ xs) ys high = refl

pub first_low-later : (es : List SbEntry) (v high : ℕ) → BeginLater v es → v < high → v < first_low es high
first_low-later [] v high all below = below
first_low-later (e ∷ es) v high all below = All-head (λ e. v < e.low) e es all

pub EachStands-split : (stands : ℕ → ℕ → ℕ → Type 0) (xs ys : List SbEntry) (high : ℕ)
    → EachStands stands (xs ++ ys) high → EachStands stands xs (first_low ys high) × EachStands stands ys high
EachStands-split stands [] ys high each = (tt, each)
EachStands-split stands (x ∷ xs) ys high each = grind (arith, EachStands-split stands xs ys high each.1)

pub EachStands-join : (stands : ℕ → ℕ → ℕ → Type 0) (xs ys : List SbEntry) (high : ℕ)
    → EachStands stands xs (first_low ys high) → EachStands stands ys high → EachStands stands (xs ++ ys) high
EachStands-join stands [] ys high first rest = rest
EachStands-join stands (x ∷ xs) ys high first rest = grind (arith, EachStands-join stands xs ys high first.1 rest)

-- what the path's entry stands for
pub EachStands-path : (stands : ℕ → ℕ → ℕ → Type 0) (es before : List SbEntry) (at : SbEntry) (after : List SbEntry) (v high : ℕ)
    → GoesBy es before at after v → EachStands stands es high → stands at.child at.low (first_low after high)
EachStands-path stands es before at after v high p each = grind (arith, EachStands-split)
