-- Where the keys lead once an entry leads to another child.
use Rattle.std.proofs.Common.{◌≡◌, ℕ, ◌<◌, ◌≤◌, inl, inr, Bool, true, false, ◌&&◌, cond, nat_lt, List, [], ◌∷◌, ◌++◌, Option, Some, None, refl, sym, ap, ◌∙◌, subst, arith}
use Rattle.std.specs.List.{All, sum_by}
use Rattle.std.proofs.lemmas.Bool.{cases_lt, cases_Bool, and_parts, and_from, and_left, and_right, true≢false, lt-ltb, le-ltb, ltb-true, ltb-false}
use Rattle.std.proofs.lemmas.List.Elements.{All-cons, All-nil, All-head, All-tail}
use Rattle.std.proofs.lemmas.List.Sums.{sum_by-cons}
use Rattle.page_layout.specs.declared.mv_node.MvEntry.{MvEntry}
use Rattle.mv_pages.specs.Alive.{is_alive, reaches, or_later, child_reached, path_child, path_entry, is_beyond, next_entry, IsPastOf}
use Rattle.mv_pages.specs.Edits.{put_in, EndsAfter}
use Rattle.mv_pages.proofs.Order.{Before, before_le, Ordered, All-map, All-both}
use Rattle.mv_pages.proofs.Paths.{or_later-none}
use Rattle.mv_pages.proofs.Reaching.{reaches-alive, reaches-below, reaches-dead}
use Rattle.mv_pages.proofs.Copying.{dead_later, alive_later}

not_both : (a b : Bool) → b ≡ false → (a && b) ≡ false
not_both a b h = and_right a b h

ltb_false : (a b : ℕ) → nat_lt a b ≡ false → b ≤ a
ltb_false a b h = ltb-false a b h

entry_of : MvEntry → Option MvEntry → MvEntry
entry_of d None = d
entry_of d (Some e) = e

some_same : (a b : MvEntry) → Some a ≡ Some b → a ≡ b
unfolding entry_of
some_same a b h = ap (entry_of a) h

pub child-none : (q w : ℕ) (e : MvEntry) → reaches q w e ≡ false → child_reached q w e ≡ None
child-none q w e h = rw h refl

pub child-some : (q w : ℕ) (e : MvEntry) → reaches q w e ≡ true → child_reached q w e ≡ Some e.child
child-some q w e h = rw h refl

pub no_path : (q w : ℕ) (es : List MvEntry) → All (λ e. reaches q w e ≡ false) es → path_child es q w ≡ None
no_path q w [] none = refl
no_path q w (e ∷ es) none =
    let here = child-none q w e (All-head (λ (e : MvEntry). reaches q w e ≡ false) e es none) in
    ap (λ (o : Option ℕ). or_later o (path_child es q w)) here ∙ or_later-none (path_child es q w) ∙ no_path q w es (All-tail (λ (e : MvEntry). reaches q w e ≡ false) e es none)

entry-none : (q w : ℕ) (es : List MvEntry) → All (λ e. reaches q w e ≡ false) es → path_entry es q w ≡ None
entry-none q w [] none = refl
entry-none q w (e ∷ es) none =
    let b = All-head (λ (e : MvEntry). reaches q w e ≡ false) e es none in
    let nothing : Option MvEntry = None in
    let here : cond (reaches q w e) (Some e) nothing ≡ nothing = rw b refl in
    ap (λ (o : Option MvEntry). or_later o (path_entry es q w)) here ∙ or_later-none (path_entry es q w) ∙ entry-none q w es (All-tail (λ (e : MvEntry). reaches q w e ≡ false) e es none)

-- the entry that a path goes by
pub entry-found : (q w : ℕ) (before : List MvEntry) (e : MvEntry) (after : List MvEntry) → reaches q w e ≡ true → All (λ f. reaches q w f ≡ false) after → path_entry (before ++ (e ∷ after)) q w ≡ Some e
entry-found q w [] e after here none =
    let own : cond (reaches q w e) (Some e) None ≡ Some e = rw here refl in
    ap (λ (o : Option MvEntry). or_later o (path_entry after q w)) own ∙ ap (or_later (Some e)) (entry-none q w after none)
entry-found q w (b ∷ before) e after here none = ap (or_later (cond (reaches q w b) (Some b) None)) (entry-found q w before e after here none)

-- what begins at or below a key is not beyond it
pub next_skip : (key v : ℕ) (xs ys : List MvEntry) → All (λ x. x.low ≤ key) xs → next_entry (xs ++ ys) key v ≡ next_entry ys key v
next_skip key v [] ys lows = refl
next_skip key v (x ∷ xs) ys lows =
    let no : is_beyond key v x ≡ false = and_left (nat_lt key x.low) (is_alive v x) (le-ltb key x.low (All-head (λ (x : MvEntry). x.low ≤ key) x xs lows)) in
    rw no (next_skip key v xs ys (All-tail (λ (x : MvEntry). x.low ≤ key) x xs lows))

-- Where a key ends before the next entry, those that are alive after the path's begin above it.
pub beyond_out : (key v q : ℕ) (es : List MvEntry) → Ordered es → All (λ f. reaches key v f ≡ false) es → EndsAfter (next_entry es key v) q → All (λ f. is_alive v f ≡ true → q < f.low) es
beyond_out key v q [] o none ends = All-nil (λ (f : MvEntry). is_alive v f ≡ true → q < f.low)
beyond_out key v q (e ∷ es) o none ends = elim (cases_Bool (is_alive v e)) [
  | inl alive ↦
      let above : key < e.low = elim (cases_lt key e.low) [
        | inl l ↦ l
        | inr le ↦ absurd (true≢false (sym (reaches-alive key v e le alive) ∙ All-head (λ (f : MvEntry). reaches key v f ≡ false) e es none))
      ] in
      let beyond : is_beyond key v e ≡ true = and_from (nat_lt key e.low) (is_alive v e) (lt-ltb key e.low above) alive in
      let here : q < e.low = subst (λ (b : Bool). EndsAfter (cond b (Some e) (next_entry es key v)) q) beyond ends in
      All-cons (λ (f : MvEntry). is_alive v f ≡ true → q < f.low) e es (λ _. here) (All-map (Before e) (λ (f : MvEntry). is_alive v f ≡ true → q < f.low) es (λ f b _. omega (arith, here, before_le e f b)) o.0)
  | inr dead ↦
      let beyond : is_beyond key v e ≡ false = not_both (nat_lt key e.low) (is_alive v e) dead in
      let rest : EndsAfter (next_entry es key v) q = subst (λ (b : Bool). EndsAfter (cond b (Some e) (next_entry es key v)) q) beyond ends in
      All-cons (λ (f : MvEntry). is_alive v f ≡ true → q < f.low) e es (λ a. absurd (true≢false (sym a ∙ dead)))
      (beyond_out key v q es o.1 (All-tail (λ (f : MvEntry). reaches key v f ≡ false) e es none) rest)
]

-- so none of them reaches the key later
pub none_later : (v w q : ℕ) (es : List MvEntry) → v < 4294967295 → v ≤ w → All (IsPastOf v) es → All (λ f. is_alive v f ≡ true → q < f.low) es → All (λ f. reaches q w f ≡ false) es
none_later v w q [] last late past out = All-nil (λ (f : MvEntry). reaches q w f ≡ false)
none_later v w q (e ∷ es) last late past out =
    let rest = none_later v w q es last late (All-tail (IsPastOf v) e es past) (All-tail (λ (f : MvEntry). is_alive v f ≡ true → q < f.low) e es out) in
    let here : reaches q w e ≡ false = elim (cases_Bool (is_alive v e)) [
      | inl alive ↦ reaches-below q w e (All-head (λ (f : MvEntry). is_alive v f ≡ true → q < f.low) e es out alive)
      | inr dead ↦ reaches-dead q w e (dead_later v w e last late (All-head (IsPastOf v) e es past) dead)
    ] in
    All-cons (λ (f : MvEntry). reaches q w f ≡ false) e es here rest

-- 1 for an entry above the low that reaches the key
abbrev pub above_one : ℕ → ℕ → ℕ → MvEntry → ℕ
above_one low q w e = cond (nat_lt low e.low && reaches q w e) 1 0

one_from : (low q w : ℕ) (e : MvEntry) → low < e.low → reaches q w e ≡ true → above_one low q w e ≡ 1
one_from low q w e h r = let b : (nat_lt low e.low && reaches q w e) ≡ true = and_from (nat_lt low e.low) (reaches q w e) (lt-ltb low e.low h) r in rw b refl

pub none_from : (low q w : ℕ) (e : MvEntry) → e.low ≤ low → above_one low q w e ≡ 0
none_from low q w e h = let b : (nat_lt low e.low && reaches q w e) ≡ false = and_left (nat_lt low e.low) (reaches q w e) (le-ltb low e.low h) in rw b refl

none_reached : (low q w : ℕ) (e : MvEntry) → reaches q w e ≡ false → above_one low q w e ≡ 0
none_reached low q w e r = let b : (nat_lt low e.low && reaches q w e) ≡ false = not_both (nat_lt low e.low) (reaches q w e) r in rw b refl

-- Where the next entry is at or below a key, some entry reaches it.
pub next_counts : (key v w q low : ℕ) (n : MvEntry) (es : List MvEntry) → v < 4294967295 → v ≤ w → All (IsPastOf v) es → next_entry es key v ≡ Some n → n.low ≤ q → low < n.low
    → 1 ≤ sum_by (above_one low q w) es
next_counts key v w q low n [] last late past next at above = absurd cc
next_counts key v w q low n (e ∷ es) last late past next at above =
    let sum = sum_by-cons (above_one low q w) e es in
    elim (cases_Bool (is_beyond key v e)) [
      | inl here ↦
          let found : Some e ≡ Some n = rw here at next in
          let same : e ≡ n = some_same e n found in
          let alive = (and_parts (nat_lt key e.low) (is_alive v e) here).1 in
          let at_e : e.low ≤ q = subst (λ (x : MvEntry). x.low ≤ q) (sym same) at in
          let above_e : low < e.low = subst (λ (x : MvEntry). low < x.low) (sym same) above in
          let one = one_from low q w e above_e (reaches-alive q w e at_e (alive_later v w e last late (All-head (IsPastOf v) e es past) alive)) in
          omega (arith, sum, one)
      | inr away ↦
          let there : next_entry es key v ≡ Some n = rw away at next in
          omega (arith, sum, next_counts key v w q low n es last late (All-tail (IsPastOf v) e es past) there at above)
    ]

later_some : (a : Option ℕ) (o : Option ℕ) (n : ℕ) → o ≡ Some n → or_later a o ≡ Some n
later_some a o n h = ap (or_later a) h

first_some : (n : ℕ) (o : Option ℕ) → (m : ℕ) × (or_later (Some n) o ≡ Some m)
first_some n None = (n, refl)
first_some n (Some m) = (m, refl)

pub path_some : (low q w : ℕ) (es : List MvEntry) → 1 ≤ sum_by (above_one low q w) es → (n : ℕ) × (path_child es q w ≡ Some n)
path_some low q w [] some = absurd (omega (arith, some))
path_some low q w (e ∷ es) some =
    let sum = sum_by-cons (above_one low q w) e es in
    elim (cases_Bool (reaches q w e)) [
      | inl here ↦
          let own = child-some q w e here in
          let r = first_some e.child (path_child es q w) in
          (r.0, ap (λ (o : Option ℕ). or_later o (path_child es q w)) own ∙ r.1)
      | inr away ↦
          let none = none_reached low q w e away in
          let r = path_some low q w es (omega (arith, sum, some, none)) in
          (r.0, later_some (child_reached q w e) (path_child es q w) r.0 r.1)
    ]

some_stays : (a : Option ℕ) (o : Option ℕ) (n : ℕ) → o ≡ Some n → or_later a o ≡ o
some_stays a o n h = ap (or_later a) h ∙ sym h

-- An entry under others that reach the key leaves the path.
pub put_path-under : (q w : ℕ) (x : MvEntry) (es : List MvEntry) → 1 ≤ sum_by (above_one x.low q w) es → path_child (put_in x es) q w ≡ path_child es q w
put_path-under q w x [] some = absurd (omega (arith, some))
put_path-under q w x (e ∷ es) some = elim (cases_Bool (nat_lt x.low e.low)) [
  | inl above ↦ let r = path_some x.low q w (e ∷ es) some in rw above (some_stays (child_reached q w x) (path_child (e ∷ es) q w) r.0 r.1)
  | inr within ↦
      let none = none_from x.low q w e (ltb_false x.low e.low within) in
      let sum = sum_by-cons (above_one x.low q w) e es in
      rw within (ap (or_later (child_reached q w e)) (put_path-under q w x es (omega (arith, sum, some, none))))
]

-- An entry above which none reaches the key is the path's.
pub put_path-last : (q w : ℕ) (x : MvEntry) (es : List MvEntry) → Ordered es → All (λ e. x.low < e.low → reaches q w e ≡ false) es → reaches q w x ≡ true → path_child (put_in x es) q w ≡ Some x.child
put_path-last q w x [] o none here = child-some q w x here
put_path-last q w x (e ∷ es) o none here = elim (cases_Bool (nat_lt x.low e.low)) [
  | inl above ↦
      let less : x.low < e.low = ltb-true x.low e.low above in
      let P : MvEntry → Type 0 = λ e. x.low < e.low → reaches q w e ≡ false in
      let tail : All (λ f. reaches q w f ≡ false) es = All-both (Before e) P (λ f. reaches q w f ≡ false) es (λ f b p. p (omega (arith, less, before_le e f b))) o.0 (All-tail P e es none) in
      let out = no_path q w (e ∷ es) (All-cons (λ (f : MvEntry). reaches q w f ≡ false) e es (All-head P e es none less) tail) in
      rw above (ap (or_later (child_reached q w x)) out ∙ child-some q w x here)
  | inr within ↦
      let rest = put_path-last q w x es o.1 (All-tail (λ (e : MvEntry). x.low < e.low → reaches q w e ≡ false) e es none) here in
      rw within (ap (or_later (child_reached q w e)) rest)
]
