-- The entries of a node, cut at the path of a version: those before the path's entry, that entry, and
-- those after it, which begin above the version.
use Rattle.sb_tree.proofs.Common.{◌≡◌, ℕ, zero, suc, ◌+◌, ◌-◌, ◌<◌, ◌≤◌, List, [], ◌∷◌, ◌++◌, length, get_or, take, drop, nat_le, cond, true, refl, sym, ap, ◌∙◌, arith, drop-cons, rules, All, sum_by, get_or-take, length-take, take-append-drop, drop_all, sum_by-append, sum_by-cons, SbEntry, begun_value, child_from, child_at, HaveBegun, BeginLater, IsCut, first_low, low_from, next_from}

pub All-head : {X : Type 0} (P : X → Type 0) (x : X) (xs : List X) → All P (x ∷ xs) → P x
All-head P x xs all = all 0 x (omega arith)

pub All-tail : {X : Type 0} (P : X → Type 0) (x : X) (xs : List X) → All P (x ∷ xs) → All P xs
All-tail P x xs all = λ k d h. all (suc k) d (omega arith)

pub begun_value-append : (xs ys : List SbEntry) (v : ℕ) → begun_value (xs ++ ys) v ≡ begun_value xs v + begun_value ys v
begun_value-append xs ys v = sum_by-append (λ e. cond (nat_le e.low v) e.value 0) xs ys

pub begun_value-cons : (e : SbEntry) (es : List SbEntry) (v : ℕ) → begun_value (e ∷ es) v ≡ cond (nat_le e.low v) e.value 0 + begun_value es v
begun_value-cons e es v = sum_by-cons (λ e. cond (nat_le e.low v) e.value 0) e es

pub begun_value-begun : (es : List SbEntry) (v : ℕ) → HaveBegun v es → begun_value es v ≡ sum_by (λ e. e.value) es
begun_value-begun [] v all = refl
begun_value-begun (e ∷ es) v all =
    let here : nat_le e.low v ≡ true = search (rules, All-head) in
    let rest = begun_value-begun es v (All-tail (λ e. e.low ≤ v) e es all) in
    begun_value-cons e es v ∙ (rw (here, rest) refl) ∙ sym (sum_by-cons (λ e. e.value) e es)

pub begun_value-later : (es : List SbEntry) (v : ℕ) → BeginLater v es → begun_value es v ≡ 0
begun_value-later [] v all = refl
begun_value-later (e ∷ es) v all = grind (arith, All-head, begun_value-later es v (All-tail (λ e. v < e.low) e es all))

pub child_from-append : (c : ℕ) (xs ys : List SbEntry) (v : ℕ) → child_from c (xs ++ ys) v ≡ child_from (child_from c xs v) ys v
child_from-append c [] ys v = refl
child_from-append c (x ∷ xs) ys v = child_from-append (cond (nat_le x.low v) x.child c) xs ys v

pub child_from-later : (c : ℕ) (es : List SbEntry) (v : ℕ) → BeginLater v es → child_from c es v ≡ c
child_from-later c [] v all = refl
child_from-later c (e ∷ es) v all = grind (arith, All-head, child_from-later c es v (All-tail (λ e. v < e.low) e es all))

pub low_from-append : (c : ℕ) (xs ys : List SbEntry) (v : ℕ) → low_from c (xs ++ ys) v ≡ low_from (low_from c xs v) ys v
low_from-append c [] ys v = refl
low_from-append c (x ∷ xs) ys v = low_from-append (cond (nat_le x.low v) x.low c) xs ys v

pub low_from-later : (c : ℕ) (es : List SbEntry) (v : ℕ) → BeginLater v es → low_from c es v ≡ c
low_from-later c [] v all = refl
low_from-later c (e ∷ es) v all = grind (arith, All-head, low_from-later c es v (All-tail (λ e. v < e.low) e es all))

pub next_from-begun : (xs ys : List SbEntry) (v high : ℕ) → HaveBegun v xs → next_from (xs ++ ys) v high ≡ next_from ys v high
next_from-begun [] ys v high all = refl
next_from-begun (e ∷ es) ys v high all = grind (arith, All-head, next_from-begun es ys v high (All-tail (λ e. e.low ≤ v) e es all))

pub next_from-later : (es : List SbEntry) (v high : ℕ) → BeginLater v es → next_from es v high ≡ first_low es high
next_from-later [] v high all = refl
next_from-later (e ∷ es) v high all = grind (arith, All-head)

-- The path of the version goes by the entry `at`.
pub record GoesBy (entries before : List SbEntry) (at : SbEntry) (after : List SbEntry) (v : ℕ) : Type 0 where
  pub whole : entries ≡ before ++ (at ∷ after)
  pub begun : HaveBegun v before
  pub here : at.low ≤ v
  pub later : BeginLater v after

pub child_at-path : (entries before : List SbEntry) (at : SbEntry) (after : List SbEntry) (v : ℕ) → GoesBy entries before at after v → child_at entries v ≡ at.child
child_at-path entries before at after v p = grind (arith, child_from-append, child_from-later)

pub low_from-path : (entries before : List SbEntry) (at : SbEntry) (after : List SbEntry) (v low : ℕ) → GoesBy entries before at after v → low_from low entries v ≡ at.low
low_from-path entries before at after v low p = grind (arith, low_from-append, low_from-later)

pub next_from-path : (entries before : List SbEntry) (at : SbEntry) (after : List SbEntry) (v high : ℕ) → GoesBy entries before at after v → next_from entries v high ≡ first_low after high
next_from-path entries before at after v high p = grind (arith, next_from-begun)

pub begun_value-cut : (entries : List SbEntry) (k v : ℕ) → IsCut entries k v → begun_value entries v ≡ sum_by (λ e. e.value) (take k entries)
begun_value-cut entries k v c =
    let first = begun_value-begun (take k entries) v c.begun in
    let last = begun_value-later (drop k entries) v c.later in
    ap (λ es. begun_value es v) (sym (take-append-drop k entries)) ∙ begun_value-append (take k entries) (drop k entries) v ∙ (rw (first, last) (omega arith))

-- at the cut, the last of the entries that have begun
pub GoesBy-cut : (entries : List SbEntry) (k v : ℕ) (d : SbEntry) → IsCut entries (suc k) v
    → GoesBy entries (take k entries) (get_or entries k d) (drop (suc k) entries) v
GoesBy-cut entries k v d c = record {
  whole = search (rules, take-append-drop, drop-cons);
  begun = λ j e h.
      let same : get_or (take (suc k) entries) j e ≡ get_or entries j e = search (rules, get_or-take) in
      let same2 : get_or (take k entries) j e ≡ get_or entries j e = search (rules, get_or-take) in
      let b = c.begun j e (omega (arith, length-take k entries, length-take (suc k) entries, c.bound)) in
      rw same2 (rw same at b);
  here =
      let same : get_or (take (suc k) entries) k d ≡ get_or entries k d = get_or-take (suc k) entries k d (omega arith) in
      let b = c.begun k d (omega (arith, length-take (suc k) entries, c.bound)) in
      rw same at b;
  later = c.later;
}

pub inner_low : (entries : List SbEntry) (k v low : ℕ) (d : SbEntry) → IsCut entries k v → 1 ≤ k → (get_or entries (k - 1) d).low ≡ low_from low entries v
inner_low entries zero v low d c some = absurd (omega arith)
inner_low entries (suc k) v low d c some =
    let place : suc k - 1 ≡ k = omega arith in
    rw place (sym (low_from-path entries _ _ _ v low (GoesBy-cut entries k v d c)))

pub inner_child : (entries : List SbEntry) (k v : ℕ) (d : SbEntry) → IsCut entries k v → 1 ≤ k → (get_or entries (k - 1) d).child ≡ child_at entries v
inner_child entries zero v d c some = absurd (omega arith)
inner_child entries (suc k) v d c some =
    let place : suc k - 1 ≡ k = omega arith in
    rw place (sym (child_at-path entries _ _ _ v (GoesBy-cut entries k v d c)))

pub inner_high : (entries : List SbEntry) (k v high : ℕ) → IsCut entries k v → next_from entries v high ≡ first_low (drop k entries) high
inner_high entries k v high c =
    ap (λ es. next_from es v high) (sym (take-append-drop k entries)) ∙ next_from-begun (take k entries) (drop k entries) v high c.begun ∙ next_from-later (drop k entries) v high c.later

pub first_low-at : (es : List SbEntry) (k high : ℕ) (d : SbEntry) → k < length es → first_low (drop k es) high ≡ (get_or es k d).low
first_low-at es k high d h = ap (λ xs. first_low xs high) (drop-cons es k d h)

pub first_low-past : (es : List SbEntry) (k high : ℕ) → length es ≤ k → first_low (drop k es) high ≡ high
first_low-past es k high h = ap (λ xs. first_low xs high) (drop_all k es h)

-- Where the first entry begins at or below the version, some have begun.
pub some_begun : (entries : List SbEntry) (k v high : ℕ) → IsCut entries k v → 1 ≤ length entries → first_low entries high ≤ v → 1 ≤ k
some_begun [] k v high c some first = absurd (omega arith)
some_begun (e ∷ es) zero v high c some first = grind (arith, All-head)
some_begun (e ∷ es) (suc k) v high c some first = omega arith
