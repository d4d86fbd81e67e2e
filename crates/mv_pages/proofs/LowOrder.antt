-- The lows that are alive, in order, and where a path goes by them.
use Rattle.std.proofs.Common.{◌≡◌, ℕ, ◌+◌, ◌<◌, ◌≤◌, inl, inr, Bool, true, false, ◌||◌, ◌==◌, cond, nat_lt, nat_le, List, [], ◌∷◌, ◌++◌, length, Option, Some, None, refl, sym, ap, ◌∙◌, subst, arith}
use Rattle.std.specs.List.{All, list_all}
use Rattle.std.proofs.lemmas.Bool.{cases_lt, cases_order, cases_Bool, true≢false, and_parts, and_from, and_left, and_right, or_cases, or_left, or_right, lt-ltb, ltb-true, le-leb, leb-true, eq-eqb, eqb-true, ne_eqb}
use Rattle.std.proofs.lemmas.List.Elements.{All-cons, All-nil, All-head, All-tail}
use Rattle.std.proofs.lemmas.List.Sums.{sum_by-cons}
use Rattle.page_layout.specs.declared.mv_node.MvEntry.{MvEntry}
use Rattle.mv_pages.specs.Alive.{is_alive, or_later, reaches, child_reached, path_child, path_entry, is_beyond, next_entry, is_alive_from, alive_one, alive_count, AreEntriesOf, IsPastOf, IsChangeable}
use Rattle.mv_pages.specs.Lows.{alive_lows, with_low, low_at, low_above, follows, ascend_from, ascend, low_of, is_past}
use Rattle.mv_pages.proofs.Order.{Before, before_le, Ordered, ordered, All-both}
use Rattle.mv_pages.proofs.Leading.{entry-found}
use Rattle.mv_pages.proofs.Paths.{or_later-none}
use Rattle.mv_pages.proofs.Reaching.{from-alive, from-dead, from-other}
use Rattle.mv_pages.proofs.LivingLows.{lows_cons, lows_skip, lows_all, none_alive, above_of, with_past, with_same}

-- The lows in order.

pub ascends : (v : ℕ) (es : List MvEntry) (last : Option ℕ) → Ordered es → ((low : ℕ) → alive_count es v low ≤ 1) → All (λ l. follows last l ≡ true) (alive_lows es v)
    → ascend_from last (alive_lows es v) ≡ true
ascends v [] last o once over = refl
ascends v (e ∷ es) last o once over =
    let count : (low : ℕ) → alive_count (e ∷ es) v low ≡ alive_one v low e + alive_count es v low = λ low. sum_by-cons (alive_one v low) e es in
    let fewer : (low : ℕ) → alive_count es v low ≤ 1 = λ low. omega (arith, once low, count low) in
    let P : ℕ → Type 0 = λ l. follows last l ≡ true in
    elim (cases_Bool (is_alive v e)) [
      | inl lives ↦
          let here : is_alive_from v e.low e ≡ true = from-alive v e.low e refl lives in
          let one : alive_one v e.low e ≡ 1 = rw here refl in
          let none = none_alive v e.low es (omega (arith, once e.low, count e.low, one)) in
          let Q : MvEntry → Type 0 = λ y. is_alive_from v e.low y ≡ false in
          let R : MvEntry → Type 0 = λ y. is_alive v y ≡ true → nat_lt e.low y.low ≡ true in
          let above : All (λ l. nat_lt e.low l ≡ true) (alive_lows es v) =
          lows_all (λ (l : ℕ). nat_lt e.low l ≡ true) v es (All-both (Before e) Q R es (λ y h miss alive. lt-ltb e.low y.low (above_of v e.low y miss alive (before_le e y h))) o.0 none) in
          let mine : All P (e.low ∷ alive_lows es v) = subst (All P) (lows_cons v e es lives) over in
          ap (ascend_from last) (lows_cons v e es lives)
          ∙ and_from (follows last e.low) (ascend_from (Some e.low) (alive_lows es v)) (All-head P e.low (alive_lows es v) mine) (ascends v es (Some e.low) o.1 fewer above)
      | inr gone ↦ ap (ascend_from last) (lows_skip v e es gone) ∙ ascends v es last o.1 fewer (subst (All P) (lows_skip v e es gone) over)
    ]

none_of : (v : ℕ) (es : List MvEntry) (last low : ℕ) → ascend_from (Some last) (alive_lows es v) ≡ true → low ≤ last → alive_count es v low ≡ 0
none_of v [] last low up le = refl
none_of v (e ∷ es) last low up le =
    let count : alive_count (e ∷ es) v low ≡ alive_one v low e + alive_count es v low = sum_by-cons (alive_one v low) e es in
    elim (cases_Bool (is_alive v e)) [
      | inl lives ↦
          let parts = and_parts (nat_lt last e.low) (ascend_from (Some e.low) (alive_lows es v)) (sym (ap (ascend_from (Some last)) (lows_cons v e es lives)) ∙ up) in
          let above : last < e.low = ltb-true last e.low parts.0 in
          let b = from-other v low e (λ same. omega (arith, same, above, le)) in
          let here : alive_one v low e ≡ 0 = rw b refl in
          let rest = none_of v es e.low low parts.1 (omega (arith, above, le)) in
          omega (arith, count, here, rest)
      | inr gone ↦
          let b = from-dead v low e gone in
          let here : alive_one v low e ≡ 0 = rw b refl in
          let rest = none_of v es last low (sym (ap (ascend_from (Some last)) (lows_skip v e es gone)) ∙ up) le in
          omega (arith, count, here, rest)
    ]

one_most : (b : Bool) → cond b 1 0 ≤ 1
one_most true = omega arith
one_most false = omega arith

pub once_of : (v : ℕ) (es : List MvEntry) (last : Option ℕ) → ascend_from last (alive_lows es v) ≡ true → (low : ℕ) → alive_count es v low ≤ 1
once_of v [] last up low = omega arith
once_of v (e ∷ es) last up low =
    let count : alive_count (e ∷ es) v low ≡ alive_one v low e + alive_count es v low = sum_by-cons (alive_one v low) e es in
    elim (cases_Bool (is_alive v e)) [
      | inl lives ↦
          let parts = and_parts (follows last e.low) (ascend_from (Some e.low) (alive_lows es v)) (sym (ap (ascend_from last) (lows_cons v e es lives)) ∙ up) in
          elim (cases_lt e.low low) [
            | inl above ↦
                let b = from-other v low e (λ same. omega (arith, same, above)) in
                let here : alive_one v low e ≡ 0 = rw b refl in
                let rest = once_of v es (Some e.low) parts.1 low in
                omega (arith, count, here, rest)
            | inr at ↦
                let rest = none_of v es e.low low parts.1 at in
                let most = one_most (is_alive_from v low e) in
                omega (arith, count, rest, most)
          ]
      | inr gone ↦
          let b = from-dead v low e gone in
          let here : alive_one v low e ≡ 0 = rw b refl in
          let rest = once_of v es last (sym (ap (ascend_from last) (lows_skip v e es gone)) ∙ up) low in
          omega (arith, count, here, rest)
    ]

-- A low that is put in.

pub put_ascends : (low : ℕ) (ls : List ℕ) (last : Option ℕ) → follows last low ≡ true → ascend_from last ls ≡ true → ascend_from last (with_low low ls) ≡ true
put_ascends low [] last over up = and_from (follows last low) true over refl
put_ascends low (l ∷ ls) last over up =
    let parts = and_parts (follows last l) (ascend_from (Some l) ls) up in
    elim (cases_order low l) [
      | inl same ↦ ap (ascend_from last) (with_same low l ls same) ∙ up
      | inr (inl less) ↦
          let a = lt-ltb low l less in
          let front : with_low low (l ∷ ls) ≡ low ∷ (l ∷ ls) = rw a refl in
          ap (ascend_from last) front ∙ and_from (follows last low) (ascend_from (Some low) (l ∷ ls)) over (and_from (nat_lt low l) (ascend_from (Some l) ls) a parts.1)
      | inr (inr more) ↦
          ap (ascend_from last) (with_past low l ls more) ∙ and_from (follows last l) (ascend_from (Some l) (with_low low ls)) parts.0 (put_ascends low ls (Some l) (lt-ltb l low more) parts.1)
    ]

pub put_each : (P : ℕ → Type 0) (low : ℕ) (ls : List ℕ) → P low → All P ls → All P (with_low low ls)
put_each P low [] here all = All-cons P low [] here all
put_each P low (l ∷ ls) here all = elim (cases_order low l) [
  | inl same ↦ subst (All P) (sym (with_same low l ls same)) all
  | inr (inl less) ↦
      let a = lt-ltb low l less in
      let front : with_low low (l ∷ ls) ≡ low ∷ (l ∷ ls) = rw a refl in
      subst (All P) (sym front) (All-cons P low (l ∷ ls) here all)
  | inr (inr more) ↦ subst (All P) (sym (with_past low l ls more)) (All-cons P l (with_low low ls) (All-head P l ls all) (put_each P low ls here (All-tail P l ls all)))
]

pub put_first : (low first : ℕ) (ls : List ℕ) → first ≤ low → (rest : List ℕ) × (with_low low (first ∷ ls) ≡ first ∷ rest)
put_first low first ls le = elim (cases_lt first low) [
  | inl less ↦ (with_low low ls, with_past low first ls less)
  | inr over ↦ (ls, with_same low first ls (omega (arith, le, over)))
]

pub put_fewer : (low : ℕ) (ls : List ℕ) → length ls ≤ length (with_low low ls)
put_fewer low [] = omega arith
put_fewer low (l ∷ ls) = elim (cases_order low l) [
  | inl same ↦ omega (arith, ap (λ (t : List ℕ). length t) (with_same low l ls same))
  | inr (inl less) ↦
      let a = lt-ltb low l less in
      let front : with_low low (l ∷ ls) ≡ low ∷ (l ∷ ls) = rw a refl in
      omega (arith, ap (λ (t : List ℕ). length t) front)
  | inr (inr more) ↦ omega (arith, ap (λ (t : List ℕ). length t) (with_past low l ls more), put_fewer low ls)
]

-- Where a path goes.

low_of-or_later : (a b : Option MvEntry) → low_of (or_later a b) ≡ or_later (low_of a) (low_of b)
low_of-or_later a None = refl
low_of-or_later a (Some e) = refl

low_here : (key v : ℕ) (e : MvEntry) → is_alive v e ≡ true → low_of (cond (reaches key v e) (Some e) None) ≡ cond (nat_le e.low key) (Some e.low) None
low_here key v e lives = elim (cases_Bool (nat_le e.low key)) [
  | inl at ↦ let r : reaches key v e ≡ true = and_from (nat_le e.low key) (is_alive v e) at lives in rw (r, at) refl
  | inr above ↦ let r : reaches key v e ≡ false = and_left (nat_le e.low key) (is_alive v e) above in rw (r, above) refl
]

low_gone : (key v : ℕ) (e : MvEntry) → is_alive v e ≡ false → low_of (cond (reaches key v e) (Some e) None) ≡ None
low_gone key v e gone = let r : reaches key v e ≡ false = and_right (nat_le e.low key) (is_alive v e) gone in rw r refl

pub path_low : (es : List MvEntry) (key v : ℕ) → low_of (path_entry es key v) ≡ low_at (alive_lows es v) key
path_low [] key v = refl
path_low (e ∷ es) key v =
    let own : Option MvEntry = cond (reaches key v e) (Some e) None in
    low_of-or_later own (path_entry es key v) ∙ ap (or_later (low_of own)) (path_low es key v) ∙ (elim (cases_Bool (is_alive v e)) [
      | inl lives ↦ ap (λ (o : Option ℕ). or_later o (low_at (alive_lows es v) key)) (low_here key v e lives) ∙ sym (ap (λ (ls : List ℕ). low_at ls key) (lows_cons v e es lives))
      | inr gone ↦
          ap (λ (o : Option ℕ). or_later o (low_at (alive_lows es v) key)) (low_gone key v e gone) ∙ or_later-none (low_at (alive_lows es v) key)
          ∙ sym (ap (λ (ls : List ℕ). low_at ls key) (lows_skip v e es gone))
    ])

pub next_low : (es : List MvEntry) (key v : ℕ) → low_of (next_entry es key v) ≡ low_above (alive_lows es v) key
next_low [] key v = refl
next_low (e ∷ es) key v =
    let rest = next_low es key v in
    elim (cases_Bool (is_alive v e)) [
      | inl lives ↦ (elim (cases_Bool (nat_lt key e.low)) [
        | inl above ↦
            let b : is_beyond key v e ≡ true = and_from (nat_lt key e.low) (is_alive v e) above lives in
            let left : next_entry (e ∷ es) key v ≡ Some e = rw b refl in
            let right : low_above (e.low ∷ alive_lows es v) key ≡ Some e.low = rw above refl in
            ap low_of left ∙ sym (ap (λ (ls : List ℕ). low_above ls key) (lows_cons v e es lives) ∙ right)
        | inr at ↦
            let b : is_beyond key v e ≡ false = and_left (nat_lt key e.low) (is_alive v e) at in
            let left : next_entry (e ∷ es) key v ≡ next_entry es key v = rw b refl in
            let right : low_above (e.low ∷ alive_lows es v) key ≡ low_above (alive_lows es v) key = rw at refl in
            ap low_of left ∙ rest ∙ sym (ap (λ (ls : List ℕ). low_above ls key) (lows_cons v e es lives) ∙ right)
      ])
      | inr gone ↦
          let b : is_beyond key v e ≡ false = and_right (nat_lt key e.low) (is_alive v e) gone in
          let left : next_entry (e ∷ es) key v ≡ next_entry es key v = rw b refl in
          ap low_of left ∙ rest ∙ sym (ap (λ (ls : List ℕ). low_above ls key) (lows_skip v e es gone))
    ]

-- the child of an entry, where there is one
abbrev child_in : Option MvEntry → Option ℕ
child_in None = None
child_in (Some e) = Some e.child

child_in-or_later : (a b : Option MvEntry) → child_in (or_later a b) ≡ or_later (child_in a) (child_in b)
child_in-or_later a None = refl
child_in-or_later a (Some e) = refl

pub path_by_entry : (es : List MvEntry) (key v : ℕ) → path_child es key v ≡ child_in (path_entry es key v)
path_by_entry [] key v = refl
path_by_entry (e ∷ es) key v =
    let own : Option MvEntry = cond (reaches key v e) (Some e) None in
    let here : child_reached key v e ≡ child_in own = elim (cases_Bool (reaches key v e)) [
      | inl r ↦ rw r refl
      | inr r ↦ rw r refl
    ] in
    ap (or_later (child_reached key v e)) (path_by_entry es key v) ∙ ap (λ (o : Option ℕ). or_later o (child_in (path_entry es key v))) here ∙ sym (child_in-or_later own (path_entry es key v))

neither : (a b : Option MvEntry) → or_later a b ≡ None → (a ≡ None) × (b ≡ None)
neither None None h = (refl, refl)
neither (Some x) None h = absurd cc
neither a (Some y) h = absurd cc

own_reaches : (key v : ℕ) (e y : MvEntry) → cond (reaches key v e) (Some e) None ≡ Some y → (reaches key v e ≡ true) × (e ≡ y)
own_reaches key v e y h = elim (cases_Bool (reaches key v e)) [
  | inl r ↦ let s : Some e ≡ Some y = rw r at h in (r, cc)
  | inr r ↦ let none : Option MvEntry = None in let s : none ≡ Some y = rw r at h in absurd cc
]

own_passed : (key v : ℕ) (e : MvEntry) → cond (reaches key v e) (Some e) None ≡ None → reaches key v e ≡ false
own_passed key v e h = elim (cases_Bool (reaches key v e)) [
  | inl r ↦ let none : Option MvEntry = None in let s : Some e ≡ none = rw r at h in absurd cc
  | inr r ↦ r
]

found_step : (key q v : ℕ) (e y : MvEntry) (b : Option MvEntry) → or_later (cond (reaches q v e) (Some e) None) b ≡ Some y → y.low ≤ key → cond (reaches key v e) (Some e) None ≡ None
    → ((z : MvEntry) → b ≡ Some z → z.low ≤ key → ⊥) → ⊥
found_step key q v e y None found le passed rest =
    let r = own_reaches q v e y found in
    let parts = and_parts (nat_le e.low q) (is_alive v e) r.0 in
    let reach : reaches key v e ≡ true = and_from (nat_le e.low key) (is_alive v e) (le-leb e.low key (subst (λ (x : MvEntry). x.low ≤ key) (sym r.1) le)) parts.1 in
    true≢false (sym reach ∙ own_passed key v e passed)
found_step key q v e y (Some z) found le passed rest =
    let same : z ≡ y = cc in
    rest z refl (subst (λ (x : MvEntry). x.low ≤ key) (sym same) le)

-- What a path goes by is alive, so each key at or above its low finds an entry.
found_below : (es : List MvEntry) (key q v : ℕ) (y : MvEntry) → path_entry es q v ≡ Some y → y.low ≤ key → path_entry es key v ≡ None → ⊥
found_below [] key q v y found le none = absurd cc
found_below (e ∷ es) key q v y found le none =
    let gone = neither (cond (reaches key v e) (Some e) None) (path_entry es key v) none in
    found_step key q v e y (path_entry es q v) found le gone.0 (λ z is under. found_below es key q v z is under gone.1)

own_same : (key q v : ℕ) (e : MvEntry) → low_of (cond (reaches key v e) (Some e) None) ≡ low_of (cond (reaches q v e) (Some e) None)
    → cond (reaches key v e) (Some e) None ≡ cond (reaches q v e) (Some e) None
own_same key q v e h =
    let none : Option ℕ = None in
    elim (cases_Bool (reaches key v e)) [
      | inl a ↦ elim (cases_Bool (reaches q v e)) [
        | inl b ↦ ap (λ (t : Bool). cond t (Some e) None) (a ∙ sym b)
        | inr b ↦ let s : Some e.low ≡ none = rw (a, b) at h in absurd cc
      ]
      | inr a ↦ elim (cases_Bool (reaches q v e)) [
        | inl b ↦ let s : none ≡ Some e.low = rw (a, b) at h in absurd cc
        | inr b ↦ ap (λ (t : Bool). cond t (Some e) None) (a ∙ sym b)
      ]
    ]

own_low : (key v : ℕ) (e : MvEntry) (low : ℕ) → low_of (cond (reaches key v e) (Some e) None) ≡ Some low → low ≤ key
own_low key v e low h =
    let none : Option ℕ = None in
    elim (cases_Bool (reaches key v e)) [
      | inl a ↦
          let s : Some e.low ≡ Some low = rw a at h in
          let same : e.low ≡ low = cc in
          subst (λ (n : ℕ). n ≤ key) same (leb-true e.low key (and_parts (nat_le e.low key) (is_alive v e) a).0)
      | inr a ↦ let s : none ≡ Some low = rw a at h in absurd cc
    ]

same_step : (key q v : ℕ) (e : MvEntry) (a b : Option MvEntry) → low_of (or_later (cond (reaches key v e) (Some e) None) a) ≡ low_of (or_later (cond (reaches q v e) (Some e) None) b)
    → (low_of a ≡ low_of b → a ≡ b) → ((y : MvEntry) → b ≡ Some y → y.low ≤ key → a ≡ None → ⊥) → ((y : MvEntry) → a ≡ Some y → y.low ≤ q → b ≡ None → ⊥)
    → or_later (cond (reaches key v e) (Some e) None) a ≡ or_later (cond (reaches q v e) (Some e) None) b
same_step key q v e (Some x) (Some y) h rest found other = rest h
same_step key q v e None None h rest found other = own_same key q v e h
same_step key q v e None (Some y) h rest found other = absurd (found y refl (own_low key v e y.low h) refl)
same_step key q v e (Some x) None h rest found other = absurd (other x refl (own_low q v e x.low (sym h)) refl)

same_entry : (es : List MvEntry) (key q v : ℕ) → low_of (path_entry es key v) ≡ low_of (path_entry es q v) → path_entry es key v ≡ path_entry es q v
same_entry [] key q v h = refl
same_entry (e ∷ es) key q v h = same_step key q v e (path_entry es key v) (path_entry es q v) h (same_entry es key q v)
    (λ y is le none. found_below es key q v y is le none) (λ y is le none. found_below es q key v y is le none)

-- Keys of the same low lead to the same child.
pub same_path : (es : List MvEntry) (key q v : ℕ) → low_at (alive_lows es v) key ≡ low_at (alive_lows es v) q → path_child es key v ≡ path_child es q v
same_path es key q v h =
    path_by_entry es key v ∙ ap child_in (same_entry es key q v (path_low es key v ∙ h ∙ sym (path_low es q v))) ∙ sym (path_by_entry es q v)

-- Entries of a version.

pub past_of : (v : ℕ) (e : MvEntry) → is_past v e ≡ true → IsPastOf v e
past_of v e h =
    let p = and_parts (nat_le e.start v) (e.end == 4294967295 || nat_le e.end v) h in (
      leb-true e.start v p.0,
      elim (or_cases (e.end == 4294967295) (nat_le e.end v) p.1) [
        | inl stays ↦ inl (eqb-true e.end 4294967295 stays)
        | inr over ↦ inr (leb-true e.end v over)
      ],
    )

pub is_past_of : (v : ℕ) (e : MvEntry) → IsPastOf v e → is_past v e ≡ true
is_past_of v e h = and_from (nat_le e.start v) (e.end == 4294967295 || nat_le e.end v) (le-leb e.start v h.0) (elim h.1 [
  | inl stays ↦ or_left (e.end == 4294967295) (nat_le e.end v) (eq-eqb e.end 4294967295 stays)
  | inr over ↦ or_right (e.end == 4294967295) (nat_le e.end v) (le-leb e.end v over)
])

all_past : (v : ℕ) (es : List MvEntry) → list_all (is_past v) es ≡ true → All (IsPastOf v) es
all_past v [] h = All-nil (IsPastOf v)
all_past v (e ∷ es) h =
    let p = and_parts (is_past v e) (list_all (is_past v) es) h in
    All-cons (IsPastOf v) e es (past_of v e p.0) (all_past v es p.1)

past_all : (v : ℕ) (es : List MvEntry) → All (IsPastOf v) es → list_all (is_past v) es ≡ true
past_all v [] all = refl
past_all v (e ∷ es) all =
    and_from (is_past v e) (list_all (is_past v) es) (is_past_of v e (All-head (IsPastOf v) e es all)) (past_all v es (All-tail (IsPastOf v) e es all))

-- The test says whether the entries may be changed.
pub changeable_by : (level v : ℕ) (es shown : List MvEntry) (b : Bool) → shown ≡ es → AreEntriesOf level es → v < 4294967295 → list_all (is_past v) shown ≡ true → b ≡ ascend (alive_lows shown v)
    → (b ≡ true → IsChangeable v es) × (IsChangeable v es → b ≡ true)
changeable_by level v es shown b same entries last past is =
    let all : list_all (is_past v) es ≡ true = sym (ap (list_all (is_past v)) same) ∙ past in
    let now : b ≡ ascend (alive_lows es v) = is ∙ ap (λ (l : List MvEntry). ascend (alive_lows l v)) same in (
      (λ up. record { last = last; past = all_past v es all; once = once_of v es None (sym now ∙ up) }),
      (λ can. now ∙ ascends v es None (ordered es entries.order) can.once (λ k d h. refl)),
    )

-- Where an entry starts or is closed later, they may not.
pub not_past : (v : ℕ) (es shown : List MvEntry) → shown ≡ es → list_all (is_past v) shown ≡ false → IsChangeable v es → ⊥
not_past v es shown same late can = true≢false (sym (ap (list_all (is_past v)) same ∙ past_all v es can.past) ∙ late)

-- The entry that a path goes by, found.

entry_found : (es before : List MvEntry) (e : MvEntry) (after : List MvEntry) (key v : ℕ) → es ≡ before ++ (e ∷ after) → reaches key v e ≡ true → All (λ f. reaches key v f ≡ false) after → path_entry es key v ≡ Some e
entry_found es before e after key v whole here passed = ap (λ (l : List MvEntry). path_entry l key v) whole ∙ entry-found key v before e after here passed

pub child_found : (es before : List MvEntry) (e : MvEntry) (after : List MvEntry) (key v : ℕ) → es ≡ before ++ (e ∷ after) → reaches key v e ≡ true → All (λ f. reaches key v f ≡ false) after → path_child es key v ≡ Some e.child
child_found es before e after key v whole here passed = path_by_entry es key v ∙ ap child_in (entry_found es before e after key v whole here passed)

pub low_found : (es before : List MvEntry) (e : MvEntry) (after : List MvEntry) (key v : ℕ) → es ≡ before ++ (e ∷ after) → reaches key v e ≡ true → All (λ f. reaches key v f ≡ false) after
    → low_at (alive_lows es v) key ≡ Some e.low
low_found es before e after key v whole here passed = sym (path_low es key v) ∙ ap low_of (entry_found es before e after key v whole here passed)

pub child_at_index : (level : ℕ) (o p : Option ℕ) → (level ≡ 1 → ⊥) → o ≡ p → cond (level == 1) None o ≡ p
child_at_index level o p high same = let b : (level == 1) ≡ false = ne_eqb level 1 high in rw b same
