-- Which lows are alive after a change.
use Rattle.std.proofs.Common.{◌≡◌, ℕ, ◌<◌, ◌≤◌, inl, inr, true, false, ◌==◌, nat_lt, List, [], ◌∷◌, ◌++◌, refl, sym, ap, ◌∙◌, subst, arith}
use Rattle.std.specs.List.{All}
use Rattle.std.proofs.lemmas.Bool.{cases_lt, cases_Bool, true≢false, lt-ltb, le-ltb, ltb-true, ltb-false, eq-eqb, ne_eqb}
use Rattle.std.proofs.lemmas.List.Elements.{All-cons, All-nil, All-head, All-tail}
use Rattle.std.proofs.lemmas.List.Sums.{sum_by-cons}
use Rattle.page_layout.specs.declared.mv_node.MvEntry.{MvEntry}
use Rattle.mv_pages.specs.Alive.{is_alive, is_alive_from, alive_one, alive_count, IsPastOf}
use Rattle.mv_pages.specs.Copies.{renewed, copies, with_more, first_raised}
use Rattle.mv_pages.specs.Edits.{closed, put_in, IsChanged}
use Rattle.mv_pages.specs.Lows.{alive_lows, with_low}
use Rattle.mv_pages.proofs.Order.{Before, before_le, Ordered, All-map, All-both, All-at, All-swap, ordered-swap}
use Rattle.mv_pages.proofs.Reaching.{alive-open, alive-early, alive-over, from-alive}
use Rattle.mv_pages.proofs.Changes.{CanChange, started, none_left, closed_alive}
use Rattle.mv_pages.proofs.Copying.{alive_later, dead_later}
use Rattle.mv_pages.proofs.Later.{later_count}

pub lows_cons : (w : ℕ) (e : MvEntry) (es : List MvEntry) → is_alive w e ≡ true → alive_lows (e ∷ es) w ≡ e.low ∷ alive_lows es w
lows_cons w e es alive = rw alive refl

pub lows_skip : (w : ℕ) (e : MvEntry) (es : List MvEntry) → is_alive w e ≡ false → alive_lows (e ∷ es) w ≡ alive_lows es w
lows_skip w e es dead = rw dead refl

put_above : (x e : MvEntry) (es : List MvEntry) → nat_lt x.low e.low ≡ true → put_in x (e ∷ es) ≡ x ∷ (e ∷ es)
put_above x e es above = rw above refl

put_beyond : (x e : MvEntry) (es : List MvEntry) → nat_lt x.low e.low ≡ false → put_in x (e ∷ es) ≡ e ∷ put_in x es
put_beyond x e es within = rw within refl

-- Where a low is put in.

pub with_front : (low : ℕ) (ls : List ℕ) → All (λ l. low < l) ls → with_low low ls ≡ low ∷ ls
with_front low [] all = refl
with_front low (l ∷ ls) all =
    let b : nat_lt low l ≡ true = lt-ltb low l (All-head (λ (l : ℕ). low < l) l ls all) in
    rw b refl

pub with_past : (low l : ℕ) (ls : List ℕ) → l < low → with_low low (l ∷ ls) ≡ l ∷ with_low low ls
with_past low l ls less =
    let a : nat_lt low l ≡ false = le-ltb low l (omega (arith, less)) in
    let b : (low == l) ≡ false = ne_eqb low l (λ same. omega (arith, same, less)) in
    rw (a, b) refl

pub with_same : (low l : ℕ) (ls : List ℕ) → low ≡ l → with_low low (l ∷ ls) ≡ l ∷ ls
with_same low l ls same =
    let a : nat_lt low l ≡ false = le-ltb low l (omega (arith, same)) in
    let b : (low == l) ≡ true = eq-eqb low l same in
    rw (a, b) refl

-- what holds of each entry that is alive holds of each low
pub lows_all : (P : ℕ → Type 0) (w : ℕ) (es : List MvEntry) → All (λ e. is_alive w e ≡ true → P e.low) es → All P (alive_lows es w)
lows_all P w [] all = All-nil P
lows_all P w (e ∷ es) all =
    let rest = lows_all P w es (All-tail (λ (e : MvEntry). is_alive w e ≡ true → P e.low) e es all) in
    elim (cases_Bool (is_alive w e)) [
      | inl lives ↦ subst (All P) (sym (lows_cons w e es lives)) (All-cons P e.low (alive_lows es w) (All-head (λ (e : MvEntry). is_alive w e ≡ true → P e.low) e es all lives) rest)
      | inr gone ↦ subst (All P) (sym (lows_skip w e es gone)) rest
    ]

apart : (w low : ℕ) (y : MvEntry) → is_alive_from w low y ≡ false → is_alive w y ≡ true → y.low ≡ low → ⊥
apart w low y miss lives same = true≢false (sym (from-alive w low y same lives) ∙ miss)

below_of : (w low : ℕ) (y : MvEntry) → is_alive_from w low y ≡ false → is_alive w y ≡ true → y.low ≤ low → y.low < low
below_of w low y miss lives le = elim (cases_lt y.low low) [
  | inl less ↦ less
  | inr over ↦ absurd (apart w low y miss lives (omega (arith, le, over)))
]

pub above_of : (w low : ℕ) (y : MvEntry) → is_alive_from w low y ≡ false → is_alive w y ≡ true → low ≤ y.low → low < y.low
above_of w low y miss lives le = elim (cases_lt low y.low) [
  | inl less ↦ less
  | inr over ↦ absurd (apart w low y miss lives (omega (arith, le, over)))
]

-- Where none is counted at a low, none is alive that begins there.
pub none_alive : (v low : ℕ) (es : List MvEntry) → alive_count es v low ≡ 0 → All (λ y. is_alive_from v low y ≡ false) es
none_alive v low [] none = All-nil (λ (y : MvEntry). is_alive_from v low y ≡ false)
none_alive v low (e ∷ es) none =
    let sum = sum_by-cons (alive_one v low) e es in
    let rest = none_alive v low es (omega (arith, sum, none)) in
    All-cons (λ (y : MvEntry). is_alive_from v low y ≡ false) e es (elim (cases_Bool (is_alive_from v low e)) [
      | inl here ↦ let one : alive_one v low e ≡ 1 = rw here refl in absurd (omega (arith, sum, none, one))
      | inr miss ↦ miss
    ]) rest

-- An entry that is put in.

pub put_lows-dead : (w : ℕ) (x : MvEntry) (es : List MvEntry) → is_alive w x ≡ false → alive_lows (put_in x es) w ≡ alive_lows es w
put_lows-dead w x [] dead = lows_skip w x [] dead
put_lows-dead w x (e ∷ es) dead = elim (cases_Bool (nat_lt x.low e.low)) [
  | inl above ↦ ap (λ (l : List MvEntry). alive_lows l w) (put_above x e es above) ∙ lows_skip w x (e ∷ es) dead
  | inr within ↦ ap (λ (l : List MvEntry). alive_lows l w) (put_beyond x e es within) ∙ (elim (cases_Bool (is_alive w e)) [
    | inl lives ↦ lows_cons w e (put_in x es) lives ∙ ap (λ (ls : List ℕ). e.low ∷ ls) (put_lows-dead w x es dead) ∙ sym (lows_cons w e es lives)
    | inr gone ↦ lows_skip w e (put_in x es) gone ∙ put_lows-dead w x es dead ∙ sym (lows_skip w e es gone)
  ])
]

pub put_lows : (w : ℕ) (x : MvEntry) (es : List MvEntry) → Ordered es → is_alive w x ≡ true → All (λ y. is_alive_from w x.low y ≡ false) es
    → alive_lows (put_in x es) w ≡ with_low x.low (alive_lows es w)
put_lows w x [] o alive none = lows_cons w x [] alive
put_lows w x (e ∷ es) o alive none = elim (cases_Bool (nat_lt x.low e.low)) [
  | inl above ↦
      let less : x.low < e.low = ltb-true x.low e.low above in
      let Q : MvEntry → Type 0 = λ y. is_alive w y ≡ true → x.low < y.low in
      let over : All (λ l. x.low < l) (alive_lows (e ∷ es) w) =
      lows_all (λ (l : ℕ). x.low < l) w (e ∷ es) (All-cons Q e es (λ _. less) (All-map (Before e) Q es (λ f h _. omega (arith, less, before_le e f h)) o.0)) in
      ap (λ (l : List MvEntry). alive_lows l w) (put_above x e es above) ∙ lows_cons w x (e ∷ es) alive ∙ sym (with_front x.low (alive_lows (e ∷ es) w) over)
  | inr within ↦
      let at : e.low ≤ x.low = ltb-false x.low e.low within in
      let miss : is_alive_from w x.low e ≡ false = All-head (λ (y : MvEntry). is_alive_from w x.low y ≡ false) e es none in
      let rest = put_lows w x es o.1 alive (All-tail (λ (y : MvEntry). is_alive_from w x.low y ≡ false) e es none) in
      ap (λ (l : List MvEntry). alive_lows l w) (put_beyond x e es within) ∙ (elim (cases_Bool (is_alive w e)) [
        | inl lives ↦
            lows_cons w e (put_in x es) lives ∙ ap (λ (ls : List ℕ). e.low ∷ ls) rest
            ∙ sym (with_past x.low e.low (alive_lows es w) (below_of w x.low e miss lives at)) ∙ sym (ap (with_low x.low) (lows_cons w e es lives))
        | inr gone ↦ lows_skip w e (put_in x es) gone ∙ rest ∙ sym (ap (with_low x.low) (lows_skip w e es gone))
      ])
]

-- An entry in the place of another.

lows_swap : (w : ℕ) (before : List MvEntry) (e d : MvEntry) (after : List MvEntry) → d.low ≡ e.low → is_alive w d ≡ is_alive w e
    → alive_lows (before ++ (d ∷ after)) w ≡ alive_lows (before ++ (e ∷ after)) w
lows_swap w [] e d after low same = elim (cases_Bool (is_alive w e)) [
  | inl lives ↦ lows_cons w d after (same ∙ lives) ∙ ap (λ (n : ℕ). n ∷ alive_lows after w) low ∙ sym (lows_cons w e after lives)
  | inr gone ↦ lows_skip w d after (same ∙ gone) ∙ sym (lows_skip w e after gone)
]
lows_swap w (b ∷ before) e d after low same =
    let rest = lows_swap w before e d after low same in
    elim (cases_Bool (is_alive w b)) [
      | inl lives ↦ lows_cons w b (before ++ (d ∷ after)) lives ∙ ap (λ (ls : List ℕ). b.low ∷ ls) rest ∙ sym (lows_cons w b (before ++ (e ∷ after)) lives)
      | inr gone ↦ lows_skip w b (before ++ (d ∷ after)) gone ∙ rest ∙ sym (lows_skip w b (before ++ (e ∷ after)) gone)
    ]

-- The low of an entry that is dead in one list and alive in the other.
lows_back : (w : ℕ) (before : List MvEntry) (e d : MvEntry) (after : List MvEntry) → Ordered (before ++ (e ∷ after)) → is_alive w e ≡ true → is_alive w d ≡ false
    → All (λ y. is_alive_from w e.low y ≡ false) (before ++ (d ∷ after)) → with_low e.low (alive_lows (before ++ (d ∷ after)) w) ≡ alive_lows (before ++ (e ∷ after)) w
lows_back w [] e d after o alive dead none =
    let Q : MvEntry → Type 0 = λ y. is_alive_from w e.low y ≡ false in
    let R : MvEntry → Type 0 = λ y. is_alive w y ≡ true → e.low < y.low in
    let over : All (λ l. e.low < l) (alive_lows after w) =
    lows_all (λ (l : ℕ). e.low < l) w after (All-both (Before e) Q R after (λ y h miss lives. above_of w e.low y miss lives (before_le e y h)) o.0 (All-tail Q d after none)) in
    ap (with_low e.low) (lows_skip w d after dead) ∙ with_front e.low (alive_lows after w) over ∙ sym (lows_cons w e after alive)
lows_back w (b ∷ before) e d after o alive dead none =
    let Q : MvEntry → Type 0 = λ y. is_alive_from w e.low y ≡ false in
    let miss : is_alive_from w e.low b ≡ false = All-head Q b (before ++ (d ∷ after)) none in
    let rest = lows_back w before e d after o.1 alive dead (All-tail Q b (before ++ (d ∷ after)) none) in
    elim (cases_Bool (is_alive w b)) [
      | inl lives ↦
          let less = below_of w e.low b miss lives (before_le b e (All-at (Before b) before e after o.0)) in
          ap (with_low e.low) (lows_cons w b (before ++ (d ∷ after)) lives) ∙ with_past e.low b.low (alive_lows (before ++ (d ∷ after)) w) less
          ∙ ap (λ (ls : List ℕ). b.low ∷ ls) rest ∙ sym (lows_cons w b (before ++ (e ∷ after)) lives)
      | inr gone ↦ ap (with_low e.low) (lows_skip w b (before ++ (d ∷ after)) gone) ∙ rest ∙ sym (lows_skip w b (before ++ (e ∷ after)) gone)
    ]

-- The low of an entry that is alive is one of the lows.
pub lows_stay : (w : ℕ) (before : List MvEntry) (e : MvEntry) (after : List MvEntry) → Ordered (before ++ (e ∷ after)) → is_alive w e ≡ true
    → with_low e.low (alive_lows (before ++ (e ∷ after)) w) ≡ alive_lows (before ++ (e ∷ after)) w
lows_stay w [] e after o alive =
    ap (with_low e.low) (lows_cons w e after alive) ∙ with_same e.low e.low (alive_lows after w) refl ∙ sym (lows_cons w e after alive)
lows_stay w (b ∷ before) e after o alive =
    let rest = lows_stay w before e after o.1 alive in
    let l : List MvEntry = before ++ (e ∷ after) in
    elim (cases_Bool (is_alive w b)) [
      | inl lives ↦
          ap (with_low e.low) (lows_cons w b l lives) ∙ (elim (cases_lt b.low e.low) [
            | inl less ↦ with_past e.low b.low (alive_lows l w) less ∙ ap (λ (ls : List ℕ). b.low ∷ ls) rest
            | inr over ↦ with_same e.low b.low (alive_lows l w) (let le = before_le b e (All-at (Before b) before e after o.0) in omega (arith, le, over))
          ]) ∙ sym (lows_cons w b l lives)
      | inr gone ↦ ap (with_low e.low) (lows_skip w b l gone) ∙ rest ∙ sym (lows_skip w b l gone)
    ]

open_alive : (w v : ℕ) (x e : MvEntry) → x.start ≡ v → x.end ≡ 4294967295 → e.start ≡ v → e.end ≡ 4294967295 → is_alive w x ≡ is_alive w e
open_alive w v x e a b c d = elim (cases_lt w v) [
  | inl early ↦ alive-early w x (omega (arith, early, a)) ∙ sym (alive-early w e (omega (arith, early, c)))
  | inr late ↦ alive-open w x (omega (arith, late, a)) b ∙ sym (alive-open w e (omega (arith, late, c)) d)
]

-- A change of an entry leaves the lows, at each version.
pub changed_lows : (before : List MvEntry) (e : MvEntry) (after : List MvEntry) (v : ℕ) (x : MvEntry) (new : List MvEntry) → CanChange before e after v x → IsChanged before e after v x new
    → (w : ℕ) → alive_lows new w ≡ alive_lows (before ++ (e ∷ after)) w
changed_lows before e after v x new can (inl c) w =
    ap (λ (l : List MvEntry). alive_lows l w) c.1 ∙ lows_swap w before e x after can.low (open_alive w v x e can.starts can.ends c.0 can.stays)
changed_lows before e after v x new can (inr c) w =
    let l : List MvEntry = before ++ (closed e v ∷ after) in
    let begun = started before e after v x can in
    ap (λ (l : List MvEntry). alive_lows l w) c.1 ∙ (elim (cases_lt w v) [
      | inl early ↦
          put_lows-dead w x l (alive-early w x (omega (arith, early, can.starts))) ∙ lows_swap w before e (closed e v) after refl (closed_alive w v e early can.stays)
      | inr late ↦
          let order : Ordered l = ordered-swap before e (closed e v) after refl refl can.order in
          let past : All (IsPastOf v) l = All-swap (IsPastOf v) before e (closed e v) after can.past (begun, inr (omega arith)) in
          let left = none_left before e after v x can in
          let none : All (λ y. is_alive_from w e.low y ≡ false) l = none_alive w e.low l (later_count v w e.low l can.last late past ∙ left) in
          let mine : All (λ y. is_alive_from w x.low y ≡ false) l = subst (λ (n : ℕ). All (λ (y : MvEntry). is_alive_from w n y ≡ false) l) (sym can.low) none in
          put_lows w x l order (alive-open w x (omega (arith, can.starts, late)) can.ends) mine
          ∙ ap (λ (n : ℕ). with_low n (alive_lows l w)) can.low
          ∙ lows_back w before e (closed e v) after can.order (alive-open w e (omega (arith, begun, late)) can.stays) (alive-over w (closed e v) late can.last) none
    ])

-- Copies, halves and a first entry that is raised.

pub copies_lows : (v w : ℕ) (es : List MvEntry) → v < 4294967295 → v ≤ w → All (IsPastOf v) es → alive_lows (copies es v) w ≡ alive_lows es w
copies_lows v w [] last late past = refl
copies_lows v w (e ∷ es) last late past =
    let mine = All-head (IsPastOf v) e es past in
    let rest = copies_lows v w es last late (All-tail (IsPastOf v) e es past) in
    elim (cases_Bool (is_alive v e)) [
      | inl lives ↦
          let more : copies (e ∷ es) v ≡ renewed v e ∷ copies es v = rw lives refl in
          ap (λ (l : List MvEntry). alive_lows l w) more ∙ lows_cons w (renewed v e) (copies es v) (alive-open w (renewed v e) late refl)
          ∙ ap (λ (ls : List ℕ). e.low ∷ ls) rest ∙ sym (lows_cons w e es (alive_later v w e last late mine lives))
      | inr gone ↦
          let same : copies (e ∷ es) v ≡ copies es v = rw gone refl in
          ap (λ (l : List MvEntry). alive_lows l w) same ∙ rest ∙ sym (lows_skip w e es (dead_later v w e last late mine gone))
    ]

pub lows-append : (w : ℕ) (xs ys : List MvEntry) → alive_lows (xs ++ ys) w ≡ alive_lows xs w ++ alive_lows ys w
lows-append w [] ys = refl
lows-append w (x ∷ xs) ys = elim (cases_Bool (is_alive w x)) [
  | inl lives ↦ lows_cons w x (xs ++ ys) lives ∙ ap (λ (ls : List ℕ). x.low ∷ ls) (lows-append w xs ys) ∙ ap (λ (ls : List ℕ). ls ++ alive_lows ys w) (sym (lows_cons w x xs lives))
  | inr gone ↦ lows_skip w x (xs ++ ys) gone ∙ lows-append w xs ys ∙ ap (λ (ls : List ℕ). ls ++ alive_lows ys w) (sym (lows_skip w x xs gone))
]

pub lows-raised : (w more : ℕ) (es : List MvEntry) → alive_lows (first_raised more es) w ≡ alive_lows es w
lows-raised w more [] = refl
lows-raised w more (e ∷ es) = lows_swap w [] e (with_more more e) es refl refl

-- What may be changed at a version has the same lows at a later one.
pub later_lows : (v w : ℕ) (es : List MvEntry) → v < 4294967295 → v ≤ w → All (IsPastOf v) es → alive_lows es w ≡ alive_lows es v
later_lows v w [] last late past = refl
later_lows v w (e ∷ es) last late past =
    let mine = All-head (IsPastOf v) e es past in
    let rest = later_lows v w es last late (All-tail (IsPastOf v) e es past) in
    elim (cases_Bool (is_alive v e)) [
      | inl lives ↦ lows_cons w e es (alive_later v w e last late mine lives) ∙ ap (λ (ls : List ℕ). e.low ∷ ls) rest ∙ sym (lows_cons v e es lives)
      | inr gone ↦ lows_skip w e es (dead_later v w e last late mine gone) ∙ rest ∙ sym (lows_skip v e es gone)
    ]
