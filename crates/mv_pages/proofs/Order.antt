-- The order of entries: by low, then by start.
use Rattle.std.proofs.Common.{◌≡◌, ℕ, zero, suc, ◌+◌, ◌<◌, ◌≤◌, ◌==◌, ◌⊎◌, inl, inr, ◌&&◌, IsTrue, nat_lt, List, [], ◌∷◌, ◌++◌, length, get_or, sym, ◌∙◌, subst, arith}
use Rattle.std.specs.List.{All, AllAdjacentBelow}
use Rattle.std.proofs.lemmas.Bool.{or_cases, or_left, or_right, and_from, and_parts, ltb-true, lt-ltb, eqb-true, eq-eqb}
use Rattle.std.proofs.lemmas.List.Elements.{All-cons, All-nil, All-head, All-tail}
use Rattle.page_layout.specs.MvNode.{mv_precedes}
use Rattle.page_layout.specs.declared.mv_node.MvEntry.{MvEntry}

abbrev pub Before : MvEntry → MvEntry → Type 0
Before a b = IsTrue (mv_precedes a b)

pub before_cases : (a b : MvEntry) → Before a b → (a.low < b.low) ⊎ ((a.low ≡ b.low) × (a.start < b.start))
before_cases a b h = elim (or_cases (nat_lt a.low b.low) (a.low == b.low && nat_lt a.start b.start) h) [
  | inl less ↦ inl (ltb-true a.low b.low less)
  | inr both ↦ let parts = and_parts (a.low == b.low) (nat_lt a.start b.start) both in inr (eqb-true a.low b.low parts.0, ltb-true a.start b.start parts.1)
]

pub before_low : (a b : MvEntry) → a.low < b.low → Before a b
before_low a b h = or_left (nat_lt a.low b.low) (a.low == b.low && nat_lt a.start b.start) (lt-ltb a.low b.low h)

pub before_start : (a b : MvEntry) → a.low ≡ b.low → a.start < b.start → Before a b
before_start a b e h = or_right (nat_lt a.low b.low) (a.low == b.low && nat_lt a.start b.start) (and_from (a.low == b.low) (nat_lt a.start b.start) (eq-eqb a.low b.low e) (lt-ltb a.start b.start h))

pub before_le : (a b : MvEntry) → Before a b → a.low ≤ b.low
before_le a b h = elim (before_cases a b h) [
  | inl less ↦ omega (arith, less)
  | inr same ↦ omega (arith, same.0)
]

pub before_trans : (a b c : MvEntry) → Before a b → Before b c → Before a c
before_trans a b c h k = elim (before_cases a b h) [
  | inl less ↦ before_low a c (omega (arith, less, before_le b c k))
  | inr same ↦ elim (before_cases b c k) [
    | inl less ↦ before_low a c (omega (arith, less, same.0))
    | inr other ↦ before_start a c (same.0 ∙ other.0) (omega (arith, same.1, other.1))
  ]
]

-- each entry stands before all after it
abbrev pub Ordered : List MvEntry → Type 0
Ordered [] = Unit {0}
Ordered (e ∷ es) = All (Before e) es × Ordered es

adjacent_tail : (e : MvEntry) (es : List MvEntry) → AllAdjacentBelow Before (e ∷ es) (length (e ∷ es)) → AllAdjacentBelow Before es (length es)
adjacent_tail e es adj = λ k d h.
    let place : suc k + 1 ≡ suc (k + 1) = omega arith in
    subst (λ (j : ℕ). Before (get_or (e ∷ es) (suc k) d) (get_or (e ∷ es) j d)) place (adj (suc k) d (omega (arith, h)))

above_first : (e : MvEntry) (es : List MvEntry) → AllAdjacentBelow Before (e ∷ es) (length (e ∷ es)) → Ordered es → All (Before e) es
above_first e [] adj rest = All-nil (Before e)
above_first e (f ∷ fs) adj rest =
    let first : Before e f = adj 0 e (omega arith) in
    All-cons (Before e) f fs first (λ k d h. before_trans e f (get_or fs k d) first (rest.0 k d h))

pub ordered : (es : List MvEntry) → AllAdjacentBelow Before es (length es) → Ordered es
ordered [] adj = tt
ordered (e ∷ es) adj =
    let rest = ordered es (adjacent_tail e es adj) in
    (above_first e es adj rest, rest)

adjacent_at : (es : List MvEntry) → Ordered es → (k : ℕ) (d : MvEntry) → k + 1 < length es → Before (get_or es k d) (get_or es (k + 1) d)
adjacent_at [] a k d h = absurd (omega (arith, h))
adjacent_at (e ∷ es) a zero d h = a.0 0 d (omega (arith, h))
adjacent_at (e ∷ es) a (suc k) d h =
    let place : suc (k + 1) ≡ suc k + 1 = omega arith in
    subst (λ (j : ℕ). Before (get_or (e ∷ es) (suc k) d) (get_or (e ∷ es) j d)) place (adjacent_at es a.1 k d (omega (arith, h)))

pub adjacent : (es : List MvEntry) → Ordered es → AllAdjacentBelow Before es (length es)
adjacent es a = λ k d h. adjacent_at es a k d h

pub All-left : {X : Type 0} (P : X → Type 0) (xs ys : List X) → All P (xs ++ ys) → All P xs
All-left P [] ys all = All-nil P
All-left P (x ∷ xs) ys all = All-cons P x xs (All-head P x (xs ++ ys) all) (All-left P xs ys (All-tail P x (xs ++ ys) all))

pub All-right : {X : Type 0} (P : X → Type 0) (xs ys : List X) → All P (xs ++ ys) → All P ys
All-right P [] ys all = all
All-right P (x ∷ xs) ys all = All-right P xs ys (All-tail P x (xs ++ ys) all)

pub All-at : {X : Type 0} (P : X → Type 0) (xs : List X) (e : X) (ys : List X) → All P (xs ++ (e ∷ ys)) → P e
All-at P xs e ys all = All-head P e ys (All-right P xs (e ∷ ys) all)

pub All-swap : {X : Type 0} (P : X → Type 0) (xs : List X) (e f : X) (ys : List X) → All P (xs ++ (e ∷ ys)) → P f → All P (xs ++ (f ∷ ys))
All-swap P [] e f ys all p = All-cons P f ys p (All-tail P e ys all)
All-swap P (x ∷ xs) e f ys all p = All-cons P x (xs ++ (f ∷ ys)) (All-head P x (xs ++ (e ∷ ys)) all) (All-swap P xs e f ys (All-tail P x (xs ++ (e ∷ ys)) all) p)

-- what follows for each entry follows for all
pub All-map : {X : Type 0} (P Q : X → Type 0) (xs : List X) → ((x : X) → P x → Q x) → All P xs → All Q xs
All-map P Q xs step all = λ k d h. step _ (all k d h)

pub All-both : {X : Type 0} (P Q R : X → Type 0) (xs : List X) → ((x : X) → P x → Q x → R x) → All P xs → All Q xs → All R xs
All-both P Q R xs step all other = λ k d h. step _ (all k d h) (other k d h)

same_right : (x e f : MvEntry) → f.low ≡ e.low → f.start ≡ e.start → Before x e → Before x f
same_right x e f low start h = elim (before_cases x e h) [
  | inl less ↦ before_low x f (omega (arith, less, low))
  | inr same ↦ before_start x f (same.0 ∙ sym low) (omega (arith, same.1, start))
]

same_left : (x e f : MvEntry) → f.low ≡ e.low → f.start ≡ e.start → Before e x → Before f x
same_left x e f low start h = elim (before_cases e x h) [
  | inl less ↦ before_low f x (omega (arith, less, low))
  | inr same ↦ before_start f x (low ∙ same.0) (omega (arith, same.1, start))
]

-- An entry of the same low and start keeps the order.
pub ordered-swap : (xs : List MvEntry) (e f : MvEntry) (ys : List MvEntry) → f.low ≡ e.low → f.start ≡ e.start → Ordered (xs ++ (e ∷ ys)) → Ordered (xs ++ (f ∷ ys))
ordered-swap [] e f ys low start o = (All-map (Before e) (Before f) ys (λ x. same_left x e f low start) o.0, o.1)
ordered-swap (x ∷ xs) e f ys low start o =
    (All-swap (Before x) xs e f ys o.0 (same_right x e f low start (All-at (Before x) xs e ys o.0)), ordered-swap xs e f ys low start o.1)

-- what stands before an entry begins at or below it, and what stands after it at or above
pub lows_before : (xs : List MvEntry) (e : MvEntry) (ys : List MvEntry) → Ordered (xs ++ (e ∷ ys)) → All (λ x. x.low ≤ e.low) xs
lows_before [] e ys o = All-nil (λ (x : MvEntry). x.low ≤ e.low)
lows_before (x ∷ xs) e ys o = All-cons (λ (x : MvEntry). x.low ≤ e.low) x xs (before_le x e (All-at (Before x) xs e ys o.0)) (lows_before xs e ys o.1)

pub lows_after : (xs : List MvEntry) (e : MvEntry) (ys : List MvEntry) → Ordered (xs ++ (e ∷ ys)) → All (λ y. e.low ≤ y.low) ys
lows_after [] e ys o = All-map (Before e) (λ (y : MvEntry). e.low ≤ y.low) ys (λ y. before_le e y) o.0
lows_after (x ∷ xs) e ys o = lows_after xs e ys o.1
