-- The lows around a key, once another low is put in.
use Rattle.std.proofs.Common.{◌≡◌, ℕ, ◌<◌, ◌≤◌, inl, inr, Bool, true, false, cond, nat_lt, nat_le, List, [], ◌∷◌, Option, Some, None, refl, sym, ap, ◌∙◌, subst, arith}
use Rattle.std.specs.Prelude.{IfSome}
use Rattle.std.proofs.lemmas.Bool.{cases_lt, cases_order, cases_Bool, and_parts, lt-ltb, le-ltb, ltb-true, lt-leb, le-leb, leb-true}
use Rattle.mv_pages.specs.Alive.{or_later}
use Rattle.mv_pages.specs.Lows.{with_low, low_at, low_above, ascend_from, greater_low, lesser_low}
use Rattle.mv_pages.proofs.LivingLows.{with_past, with_same}

-- the low at or below a key

above_step : (last l m : ℕ) (o : Option ℕ) (b : Bool) → last < l → or_later (cond b (Some l) None) o ≡ Some m → ((n : ℕ) → o ≡ Some n → l < n) → last < m
above_step last l m None true less at rest = let same : l ≡ m = cc in subst (λ (n : ℕ). last < n) same less
above_step last l m None false less at rest = absurd cc
above_step last l m (Some n) b less at rest =
    let same : n ≡ m = cc in
    let more = rest n refl in
    subst (λ (k : ℕ). last < k) same (omega (arith, less, more))

at_above : (ls : List ℕ) (last q m : ℕ) → ascend_from (Some last) ls ≡ true → low_at ls q ≡ Some m → last < m
at_above [] last q m up at = absurd cc
at_above (l ∷ ls) last q m up at =
    let parts = and_parts (nat_lt last l) (ascend_from (Some l) ls) up in
    above_step last l m (low_at ls q) (nat_le l q) (ltb-true last l parts.0) at (λ n is. at_above ls l q n parts.1 is)

greater_front : (c : ℕ) (b : Bool) (o : Option ℕ) → ((n : ℕ) → o ≡ Some n → c < n) → or_later (cond b (Some c) None) o ≡ greater_low (cond b (Some c) None) o
greater_front c true None more = refl
greater_front c true (Some n) more = let a = lt-ltb c n (more n refl) in rw a refl
greater_front c false None more = refl
greater_front c false (Some n) more = refl

greater_same : (c : ℕ) (b : Bool) (o : Option ℕ) → ((n : ℕ) → o ≡ Some n → c < n) → or_later (cond b (Some c) None) o ≡ greater_low (cond b (Some c) None) (or_later (cond b (Some c) None) o)
greater_same c true None more = let a = le-ltb c c (omega arith) in rw a refl
greater_same c true (Some n) more = let a = lt-ltb c n (more n refl) in rw a refl
greater_same c false None more = refl
greater_same c false (Some n) more = refl

greater_past : (c l : ℕ) (bc bl : Bool) (o : Option ℕ) → l < c
    → or_later (cond bl (Some l) None) (greater_low (cond bc (Some c) None) o) ≡ greater_low (cond bc (Some c) None) (or_later (cond bl (Some l) None) o)
greater_past c l false bl o less = refl
greater_past c l true true None less = let a = le-ltb c l (omega (arith, less)) in rw a refl
greater_past c l true false None less = refl
greater_past c l true bl (Some n) less = elim (cases_Bool (nat_lt c n)) [
  | inl a ↦ rw a refl
  | inr a ↦ rw a refl
]

alone : (b : Bool) (c : ℕ) → cond b (Some c) None ≡ greater_low (cond b (Some c) None) None
alone true c = refl
alone false c = refl

pub low_at_put : (c : ℕ) (ls : List ℕ) (last : Option ℕ) (q : ℕ) → ascend_from last ls ≡ true → low_at (with_low c ls) q ≡ greater_low (low_at (c ∷ []) q) (low_at ls q)
low_at_put c [] last q up = alone (nat_le c q) c
low_at_put c (l ∷ ls) last q up =
    let parts = and_parts _ (ascend_from (Some l) ls) up in
    elim (cases_order c l) [
      | inl same ↦
          ap (λ (t : List ℕ). low_at t q) (with_same c l ls same)
          ∙ subst (λ (n : ℕ). low_at (l ∷ ls) q ≡ greater_low (low_at (n ∷ []) q) (low_at (l ∷ ls) q)) (sym same) (greater_same l (nat_le l q) (low_at ls q) (λ n is. at_above ls l q n parts.1 is))
      | inr (inl less) ↦
          let a = lt-ltb c l less in
          let front : with_low c (l ∷ ls) ≡ c ∷ (l ∷ ls) = rw a refl in
          ap (λ (t : List ℕ). low_at t q) front
          ∙ greater_front c (nat_le c q) (low_at (l ∷ ls) q) (λ n is. above_step c l n (low_at ls q) (nat_le l q) less is (λ m at. at_above ls l q m parts.1 at))
      | inr (inr more) ↦
          ap (λ (t : List ℕ). low_at t q) (with_past c l ls more) ∙ ap (or_later (cond (nat_le l q) (Some l) None)) (low_at_put c ls (Some l) q parts.1)
          ∙ greater_past c l (nat_le c q) (nat_le l q) (low_at ls q) more
    ]

-- the low above a key

lesser_alone : (b : Bool) (c : ℕ) → cond b (Some c) None ≡ lesser_low (cond b (Some c) None) None
lesser_alone true c = refl
lesser_alone false c = refl

lesser_same : (c : ℕ) (b : Bool) (o : Option ℕ) → cond b (Some c) o ≡ lesser_low (cond b (Some c) None) (cond b (Some c) o)
lesser_same c true o = let a = le-ltb c c (omega arith) in rw a refl
lesser_same c false o = refl

lesser_front : (c l q : ℕ) (o : Option ℕ) → c < l → cond (nat_lt q c) (Some c) (cond (nat_lt q l) (Some l) o) ≡ lesser_low (cond (nat_lt q c) (Some c) None) (cond (nat_lt q l) (Some l) o)
lesser_front c l q o less = elim (cases_lt q c) [
  | inl below ↦
      let a = lt-ltb q c below in
      let b = lt-ltb q l (omega (arith, below, less)) in
      let d = lt-ltb c l less in
      rw (a, b, d) refl
  | inr at ↦ let a = le-ltb q c at in rw a refl
]

lesser_past : (c l q : ℕ) (o : Option ℕ) → l < c → cond (nat_lt q l) (Some l) (lesser_low (cond (nat_lt q c) (Some c) None) o) ≡ lesser_low (cond (nat_lt q c) (Some c) None) (cond (nat_lt q l) (Some l) o)
lesser_past c l q o more = elim (cases_lt q l) [
  | inl below ↦
      let a = lt-ltb q l below in
      let b = lt-ltb q c (omega (arith, below, more)) in
      let d = le-ltb c l (omega (arith, more)) in
      rw (a, b, d) refl
  | inr at ↦ let a = le-ltb q l at in rw a refl
]

pub low_above_put : (c : ℕ) (ls : List ℕ) (q : ℕ) → low_above (with_low c ls) q ≡ lesser_low (low_above (c ∷ []) q) (low_above ls q)
low_above_put c [] q = lesser_alone (nat_lt q c) c
low_above_put c (l ∷ ls) q = elim (cases_order c l) [
  | inl same ↦
      ap (λ (t : List ℕ). low_above t q) (with_same c l ls same)
      ∙ subst (λ (n : ℕ). low_above (l ∷ ls) q ≡ lesser_low (low_above (n ∷ []) q) (low_above (l ∷ ls) q)) (sym same) (lesser_same l (nat_lt q l) (low_above ls q))
  | inr (inl less) ↦
      let a = lt-ltb c l less in
      let front : with_low c (l ∷ ls) ≡ c ∷ (l ∷ ls) = rw a refl in
      ap (λ (t : List ℕ). low_above t q) front ∙ lesser_front c l q (low_above ls q) less
  | inr (inr more) ↦
      ap (λ (t : List ℕ). low_above t q) (with_past c l ls more) ∙ ap (cond (nat_lt q l) (Some l)) (low_above_put c ls q) ∙ lesser_past c l q (low_above ls q) more
]

-- the interval of a key

from_step : (l key low : ℕ) (o : Option ℕ) → or_later (cond (nat_le l key) (Some l) None) o ≡ Some low → ((n : ℕ) → o ≡ Some n → n ≤ key) → low ≤ key
from_step l key low (Some n) at rest = let same : n ≡ low = cc in subst (λ (k : ℕ). k ≤ key) same (rest n refl)
from_step l key low None at rest = elim (cases_Bool (nat_le l key)) [
  | inl under ↦
      let here : Some l ≡ Some low = rw under at at in
      let same : l ≡ low = cc in
      subst (λ (k : ℕ). k ≤ key) same (leb-true l key under)
  | inr over ↦
      let none : Option ℕ = None in
      let here : none ≡ Some low = rw over at at in
      absurd cc
]

pub low_at_from : (ls : List ℕ) (key low : ℕ) → low_at ls key ≡ Some low → low ≤ key
low_at_from [] key low at = absurd cc
low_at_from (l ∷ ls) key low at = from_step l key low (low_at ls key) at (λ n is. low_at_from ls key n is)

pub low_above_before : (ls : List ℕ) (key next : ℕ) → low_above ls key ≡ Some next → key < next
low_above_before [] key next at = absurd cc
low_above_before (l ∷ ls) key next at = elim (cases_Bool (nat_lt key l)) [
  | inl above ↦
      let here : Some l ≡ Some next = rw above at at in
      let same : l ≡ next = cc in
      subst (λ (k : ℕ). key < k) same (ltb-true key l above)
  | inr under ↦ let rest : low_above ls key ≡ Some next = rw under at at in low_above_before ls key next rest
]

none_below : (ls : List ℕ) (last q : ℕ) → ascend_from (Some last) ls ≡ true → q ≤ last → low_at ls q ≡ None
none_below [] last q up le = refl
none_below (l ∷ ls) last q up le =
    let parts = and_parts (nat_lt last l) (ascend_from (Some l) ls) up in
    let more : last < l = ltb-true last l parts.0 in
    let a = lt-leb l q (omega (arith, more, le)) in
    let rest = none_below ls l q parts.1 (omega (arith, more, le)) in
    rw (a, rest) refl

pub low_between : (ls : List ℕ) (last : Option ℕ) (key other : ℕ) → ascend_from last ls ≡ true → key ≤ other → IfSome (low_above ls key) (λ next. other < next) → low_at ls other ≡ low_at ls key
low_between [] last key other up le ends = refl
low_between (l ∷ ls) last key other up le ends =
    let parts = and_parts _ (ascend_from (Some l) ls) up in
    elim (cases_lt key l) [
      | inl above ↦
          let a = lt-ltb key l above in
          let less : other < l = rw a at ends in
          let b = lt-leb l key above in
          let d = lt-leb l other less in
          let none_key = none_below ls l key parts.1 (omega (arith, above)) in
          let none_other = none_below ls l other parts.1 (omega (arith, less)) in
          rw (b, d, none_key, none_other) refl
      | inr at ↦
          let a = le-ltb key l at in
          let rest : IfSome (low_above ls key) (λ next. other < next) = rw a at ends in
          let b = le-leb l key at in
          let d = le-leb l other (omega (arith, at, le)) in
          let same = low_between ls (Some l) key other parts.1 le rest in
          rw (b, d, same) refl
    ]
