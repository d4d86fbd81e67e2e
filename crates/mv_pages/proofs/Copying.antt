-- What the copies of entries say.
use Rattle.std.proofs.Common.{◌≡◌, ℕ, ◌+◌, ◌%◌, ◌^◌, ◌<◌, ◌≤◌, inl, inr, Bool, true, false, IsTrue, ◌&&◌, ◌==◌, cond, nat_lt, nat_le, List, [], ◌∷◌, ◌++◌, length, map, Option, Some, None, refl, sym, ap, ◌∙◌, subst, arith}
use Rattle.std.specs.List.{All, sum_by, filter}
use Rattle.std.proofs.Math.Nat.{add-mod-mod, mod-add-mod}
use Rattle.std.proofs.lemmas.Bool.{cases_Bool, and_parts, true≢false, lt-ltb, and_from}
use Rattle.std.proofs.lemmas.List.{length-map}
use Rattle.std.proofs.lemmas.List.Elements.{All-cons, All-nil, All-head, All-tail}
use Rattle.std.proofs.lemmas.List.Sums.{sum_by-cons, sum_by-append}
use Rattle.page_layout.specs.Children.{child_fits}
use Rattle.page_layout.specs.MvNode.{mv_keeps}
use Rattle.page_layout.specs.declared.mv_node.MvEntry.{MvEntry}
use Rattle.mv_pages.specs.Alive.{is_alive, alive_at, reaches, counted, value_of, or_later, child_reached, path_child, is_alive_from, alive_one, alive_count, AreEntriesOf, IsPastOf, IsChangeable}
use Rattle.mv_pages.specs.Copies.{renewed, copies, total, with_more, first_raised, AreFresh}
use Rattle.mv_pages.proofs.Order.{Before, before_cases, before_low, Ordered, ordered, adjacent, All-left, All-right, All-at, All-map, lows_after}
use Rattle.mv_pages.proofs.Paths.{path-append, or_later-none}
use Rattle.mv_pages.proofs.Reaching.{alive-open, alive-over, reaches-alive, reaches-below, reaches-dead, from-alive, from-dead}
use Rattle.mv_pages.proofs.Changes.{alive_is_open, child-dead}
use Rattle.mv_pages.proofs.Adding.{counts_none, counts_all}

pub dead_later : (v w : ℕ) (e : MvEntry) → v < 4294967295 → v ≤ w → IsPastOf v e → is_alive v e ≡ false → is_alive w e ≡ false
dead_later v w e last late past dead = elim past.1 [
  | inl o ↦ absurd (true≢false (sym (alive-open v e past.0 o) ∙ dead))
  | inr over ↦ alive-over w e (omega (arith, over, late)) (omega (arith, over, last))
]

pub alive_later : (v w : ℕ) (e : MvEntry) → v < 4294967295 → v ≤ w → IsPastOf v e → is_alive v e ≡ true → is_alive w e ≡ true
alive_later v w e last late past alive = alive-open w e (omega (arith, past.0, late)) (alive_is_open v e last past alive)

-- A sum over the copies, where each copy counts for what its entry does.
copies_sum : (f : MvEntry → ℕ) (v : ℕ) (es : List MvEntry) → ((e : MvEntry) → IsPastOf v e → is_alive v e ≡ true → f (renewed v e) ≡ f e) → ((e : MvEntry) → IsPastOf v e → is_alive v e ≡ false → f e ≡ 0)
    → All (IsPastOf v) es → sum_by f (copies es v) ≡ sum_by f es
copies_sum f v [] alive dead past = refl
copies_sum f v (e ∷ es) alive dead past =
    let mine = All-head (IsPastOf v) e es past in
    let rest = copies_sum f v es alive dead (All-tail (IsPastOf v) e es past) in
    let old = sum_by-cons f e es in
    elim (cases_Bool (is_alive v e)) [
      | inl lives ↦
          let same = alive e mine lives in
          rw lives (let s : sum_by f (renewed v e ∷ copies es v) ≡ sum_by f (e ∷ es) = omega (arith, sum_by-cons f (renewed v e) (copies es v), old, rest, same) in s)
      | inr gone ↦
          let none = dead e mine gone in
          rw gone (let s : sum_by f (copies es v) ≡ sum_by f (e ∷ es) = omega (arith, old, rest, none) in s)
    ]

renewed_reaches : (q v w : ℕ) (e : MvEntry) → v < 4294967295 → v ≤ w → IsPastOf v e → is_alive v e ≡ true → reaches q w (renewed v e) ≡ reaches q w e
renewed_reaches q v w e last late past alive =
    let same : is_alive w (renewed v e) ≡ is_alive w e = alive-open w (renewed v e) late refl ∙ sym (alive_later v w e last late past alive) in
    ap (λ (b : Bool). nat_le e.low q && b) same

pub copies_value : (q v w : ℕ) (es : List MvEntry) → v < 4294967295 → v ≤ w → All (IsPastOf v) es → value_of (copies es v) q w ≡ value_of es q w
copies_value q v w es last late past = copies_sum (counted q w) v es
    (λ e mine alive. ap (λ (b : Bool). cond b e.value 0) (renewed_reaches q v w e last late mine alive))
    (λ e mine dead. counts_none q w e (reaches-dead q w e (dead_later v w e last late mine dead))) past

copies_count : (v low : ℕ) (es : List MvEntry) → v < 4294967295 → All (IsPastOf v) es → alive_count (copies es v) v low ≡ alive_count es v low
copies_count v low es last past = copies_sum (alive_one v low) v es
    (λ e mine alive.
    let same : is_alive v (renewed v e) ≡ is_alive v e = alive-open v (renewed v e) (omega arith) refl ∙ sym alive in
    ap (λ (b : Bool). cond (e.low == low && b) 1 0) same)
    (λ e mine dead. let b = from-dead v low e dead in rw b refl) past

pub copies_path : (q v w : ℕ) (es : List MvEntry) → v < 4294967295 → v ≤ w → All (IsPastOf v) es → path_child (copies es v) q w ≡ path_child es q w
copies_path q v w [] last late past = refl
copies_path q v w (e ∷ es) last late past =
    let mine = All-head (IsPastOf v) e es past in
    let rest = copies_path q v w es last late (All-tail (IsPastOf v) e es past) in
    elim (cases_Bool (is_alive v e)) [
      | inl lives ↦
          let same : child_reached q w (renewed v e) ≡ child_reached q w e = ap (λ (b : Bool). cond b (Some e.child) None) (renewed_reaches q v w e last late mine lives) in
          rw lives (let s : path_child (renewed v e ∷ copies es v) q w ≡ path_child (e ∷ es) q w =
          ap (λ (o : Option ℕ). or_later o (path_child (copies es v) q w)) same ∙ ap (or_later (child_reached q w e)) rest in s)
      | inr gone ↦
          let none : child_reached q w e ≡ None = child-dead q w e (dead_later v w e last late mine gone) in
          rw gone (rest ∙ sym (ap (λ (o : Option ℕ). or_later o (path_child es q w)) none ∙ or_later-none (path_child es q w)))
    ]

-- What holds of each entry makes something hold of each copy.
pub copies_all : (P Q : MvEntry → Type 0) (v : ℕ) (es : List MvEntry) → ((e : MvEntry) → P e → Q (renewed v e)) → All P es → All Q (copies es v)
copies_all P Q v [] step all = All-nil Q
copies_all P Q v (e ∷ es) step all =
    let rest = copies_all P Q v es step (All-tail P e es all) in
    let here = step e (All-head P e es all) in
    elim (cases_Bool (is_alive v e)) [
      | inl lives ↦ subst (λ (b : Bool). All Q (map (renewed v) (cond b (e ∷ filter (is_alive v) es) (filter (is_alive v) es)))) (sym lives) (All-cons Q (renewed v e) (copies es v) here rest)
      | inr gone ↦ subst (λ (b : Bool). All Q (map (renewed v) (cond b (e ∷ filter (is_alive v) es) (filter (is_alive v) es)))) (sym gone) rest
    ]

count_cons : (v low : ℕ) (e : MvEntry) (es : List MvEntry) → alive_count (e ∷ es) v low ≡ alive_one v low e + alive_count es v low
count_cons v low e es = sum_by-cons (alive_one v low) e es

-- The copies after one begin above it, where none of its low is left.
later_above : (v : ℕ) (e : MvEntry) (es : List MvEntry) → All (Before e) es → alive_count es v e.low ≡ 0 → All (Before (renewed v e)) (copies es v)
later_above v e [] all none = All-nil (Before (renewed v e))
later_above v e (f ∷ fs) all none =
    let sum = count_cons v e.low f fs in
    let rest = later_above v e fs (All-tail (Before e) f fs all) (omega (arith, sum, none)) in
    elim (cases_Bool (is_alive v f)) [
      | inl lives ↦
          let less : e.low < f.low = elim (before_cases e f (All-head (Before e) f fs all)) [
            | inl l ↦ l
            | inr same ↦
                let alive : is_alive_from v e.low f ≡ true = from-alive v e.low f (sym same.0) lives in
                let one : alive_one v e.low f ≡ 1 = rw alive refl in
                absurd (omega (arith, sum, one, none))
          ] in
          subst (λ (b : Bool). All (Before (renewed v e)) (map (renewed v) (cond b (f ∷ filter (is_alive v) fs) (filter (is_alive v) fs)))) (sym lives)
          (All-cons (Before (renewed v e)) (renewed v f) (copies fs v) (before_low (renewed v e) (renewed v f) less) rest)
      | inr gone ↦ subst (λ (b : Bool). All (Before (renewed v e)) (map (renewed v) (cond b (f ∷ filter (is_alive v) fs) (filter (is_alive v) fs)))) (sym gone) rest
    ]

copies_ordered : (v : ℕ) (es : List MvEntry) → Ordered es → ((low : ℕ) → alive_count es v low ≤ 1) → Ordered (copies es v)
copies_ordered v [] o once = tt
copies_ordered v (e ∷ es) o once =
    let rest = copies_ordered v es o.1 (λ low. omega (arith, once low, count_cons v low e es)) in
    elim (cases_Bool (is_alive v e)) [
      | inl lives ↦
          let alive : is_alive_from v e.low e ≡ true = from-alive v e.low e refl lives in
          let one : alive_one v e.low e ≡ 1 = rw alive refl in
          let none : alive_count es v e.low ≡ 0 = omega (arith, once e.low, count_cons v e.low e es, one) in
          subst (λ (b : Bool). Ordered (map (renewed v) (cond b (e ∷ filter (is_alive v) es) (filter (is_alive v) es)))) (sym lives) (later_above v e es o.0 none, rest)
      | inr gone ↦ subst (λ (b : Bool). Ordered (map (renewed v) (cond b (e ∷ filter (is_alive v) es) (filter (is_alive v) es)))) (sym gone) rest
    ]

renewed_keeps : (level v : ℕ) (e : MvEntry) → v < 4294967295 → IsTrue (mv_keeps level e) → IsTrue (mv_keeps level (renewed v e))
renewed_keeps level v e last h =
    let p = and_parts (nat_lt e.start e.end) (child_fits level e.child) h in
    and_from (nat_lt v 4294967295) (child_fits level e.child) (lt-ltb v 4294967295 last) p.1

all_alive : (v : ℕ) (es : List MvEntry) → All (λ e. (e.start ≡ v) × (e.end ≡ 4294967295)) es → (w : ℕ) → v ≤ w → alive_at es w ≡ es
all_alive v [] starts w late = refl
all_alive v (e ∷ es) starts w late =
    let P : MvEntry → Type 0 = λ e. (e.start ≡ v) × (e.end ≡ 4294967295) in
    let mine : P e = All-head P e es starts in
    let lives : is_alive w e ≡ true = alive-open w e (omega (arith, mine.0, late)) mine.1 in
    let more : alive_at (e ∷ es) w ≡ e ∷ alive_at es w = rw lives refl in
    more ∙ ap (λ (l : List MvEntry). e ∷ l) (all_alive v es (All-tail P e es starts) w late)

pub copies_fresh : (level v : ℕ) (es : List MvEntry) → AreEntriesOf level es → IsChangeable v es → AreFresh level v (copies es v)
copies_fresh level v es entries can =
    record {
      starts = copies_all (IsPastOf v) (λ e. (e.start ≡ v) × (e.end ≡ 4294967295)) v es (λ e past. (refl, refl)) can.past;
      alive = all_alive v (copies es v) (copies_all (IsPastOf v) (λ e. (e.start ≡ v) × (e.end ≡ 4294967295)) v es (λ e past. (refl, refl)) can.past);
      rules = record {
        each = copies_all (λ e. IsTrue (mv_keeps level e)) (λ e. IsTrue (mv_keeps level e)) v es (λ e h. renewed_keeps level v e can.last h) entries.each;
        order = adjacent (copies es v) (copies_ordered v es (ordered es entries.order) can.once);
      };
      changeable = record {
        last = can.last;
        past = copies_all (IsPastOf v) (IsPastOf v) v es (λ e past. (omega arith, inl refl)) can.past;
        once = λ low. omega (arith, copies_count v low es can.last can.past, can.once low);
      };
    }

pub copies_length : (v : ℕ) (es : List MvEntry) → length (copies es v) ≡ length (alive_at es v)
copies_length v es = length-map (filter (is_alive v) es) (renewed v)

-- Two halves of fresh entries.

order_left : (xs ys : List MvEntry) → Ordered (xs ++ ys) → Ordered xs
order_left [] ys o = tt
order_left (x ∷ xs) ys o = (All-left (Before x) xs ys o.0, order_left xs ys o.1)

order_right : (xs ys : List MvEntry) → Ordered (xs ++ ys) → Ordered ys
order_right [] ys o = o
order_right (x ∷ xs) ys o = order_right xs ys o.1

order_raised : (more : ℕ) (es : List MvEntry) → Ordered es → Ordered (first_raised more es)
order_raised more [] o = tt
order_raised more (e ∷ es) o = (o.0, o.1)

pub all_raised : (P : MvEntry → Type 0) (more : ℕ) (es : List MvEntry) → ((e : MvEntry) → P e → P (with_more more e)) → All P es → All P (first_raised more es)
all_raised P more [] step all = all
all_raised P more (e ∷ es) step all = All-cons P (with_more more e) es (step e (All-head P e es all)) (All-tail P e es all)

count_raised : (v low more : ℕ) (es : List MvEntry) → alive_count (first_raised more es) v low ≡ alive_count es v low
count_raised v low more [] = refl
count_raised v low more (e ∷ es) = count_cons v low (with_more more e) es ∙ sym (count_cons v low e es)

pub fresh_left : (level v : ℕ) (xs ys : List MvEntry) → AreFresh level v (xs ++ ys) → AreFresh level v xs
fresh_left level v xs ys f = record {
  starts = All-left (λ e. (e.start ≡ v) × (e.end ≡ 4294967295)) xs ys f.starts;
  alive = all_alive v xs (All-left (λ e. (e.start ≡ v) × (e.end ≡ 4294967295)) xs ys f.starts);
  rules = record {
    each = All-left (λ e. IsTrue (mv_keeps level e)) xs ys f.rules.each;
    order = adjacent xs (order_left xs ys (ordered (xs ++ ys) f.rules.order));
  };
  changeable = record {
    last = f.changeable.last;
    past = All-left (IsPastOf v) xs ys f.changeable.past;
    once = λ low. omega (arith, f.changeable.once low, sum_by-append (alive_one v low) xs ys);
  };
}

pub fresh_right : (level v more : ℕ) (xs ys : List MvEntry) → AreFresh level v (xs ++ ys) → AreFresh level v (first_raised more ys)
fresh_right level v more xs ys f = record {
  starts = all_raised (λ e. (e.start ≡ v) × (e.end ≡ 4294967295)) more ys (λ e h. h) (All-right (λ e. (e.start ≡ v) × (e.end ≡ 4294967295)) xs ys f.starts);
  alive = all_alive v (first_raised more ys) (all_raised (λ e. (e.start ≡ v) × (e.end ≡ 4294967295)) more ys (λ e h. h) (All-right (λ e. (e.start ≡ v) × (e.end ≡ 4294967295)) xs ys f.starts));
  rules = record {
    each = all_raised (λ e. IsTrue (mv_keeps level e)) more ys (λ e h. h) (All-right (λ e. IsTrue (mv_keeps level e)) xs ys f.rules.each);
    order = adjacent (first_raised more ys) (order_raised more ys (order_right xs ys (ordered (xs ++ ys) f.rules.order)));
  };
  changeable = record {
    last = f.changeable.last;
    past = all_raised (IsPastOf v) more ys (λ e h. h) (All-right (IsPastOf v) xs ys f.changeable.past);
    once = λ low. omega (arith, f.changeable.once low, sum_by-append (alive_one v low) xs ys, count_raised v low more ys);
  };
}

-- Among fresh entries what stands before one begins below it.
pub lows_below : (v : ℕ) (xs : List MvEntry) (e : MvEntry) (ys : List MvEntry) → Ordered (xs ++ (e ∷ ys)) → All (λ e. (e.start ≡ v) × (e.end ≡ 4294967295)) (xs ++ (e ∷ ys)) → All (λ x. x.low < e.low) xs
lows_below v [] e ys o starts = All-nil (λ (x : MvEntry). x.low < e.low)
lows_below v (x ∷ xs) e ys o starts =
    let P : MvEntry → Type 0 = λ e. (e.start ≡ v) × (e.end ≡ 4294967295) in
    let mine : P x = All-head P x (xs ++ (e ∷ ys)) starts in
    let other : P e = All-at P (x ∷ xs) e ys starts in
    let less : x.low < e.low = elim (before_cases x e (All-at (Before x) xs e ys o.0)) [
      | inl l ↦ l
      | inr same ↦ absurd (omega (arith, same.1, mine.0, other.0))
    ] in
    All-cons (λ (x : MvEntry). x.low < e.low) x xs less (lows_below v xs e ys o.1 (All-tail P x (xs ++ (e ∷ ys)) starts))

none_above : (q w : ℕ) (es : List MvEntry) → All (λ e. q < e.low) es → value_of es q w ≡ 0
none_above q w [] all = refl
none_above q w (e ∷ es) all =
    let here = counts_none q w e (reaches-below q w e (All-head (λ (e : MvEntry). q < e.low) e es all)) in
    let rest = none_above q w es (All-tail (λ (e : MvEntry). q < e.low) e es all) in
    omega (arith, sum_by-cons (counted q w) e es, here, rest)

no_path_above : (q w : ℕ) (es : List MvEntry) → All (λ e. q < e.low) es → path_child es q w ≡ None
no_path_above q w [] all = refl
no_path_above q w (e ∷ es) all =
    let b = reaches-below q w e (All-head (λ (e : MvEntry). q < e.low) e es all) in
    let here : child_reached q w e ≡ None = rw b refl in
    ap (λ (o : Option ℕ). or_later o (path_child es q w)) here ∙ or_later-none (path_child es q w) ∙ no_path_above q w es (All-tail (λ (e : MvEntry). q < e.low) e es all)

all_reach : (q v w : ℕ) (es : List MvEntry) → v ≤ w → All (λ e. (e.start ≡ v) × (e.end ≡ 4294967295)) es → All (λ e. e.low ≤ q) es → value_of es q w ≡ total es
all_reach q v w [] late starts lows = refl
all_reach q v w (e ∷ es) late starts lows =
    let P : MvEntry → Type 0 = λ e. (e.start ≡ v) × (e.end ≡ 4294967295) in
    let mine : P e = All-head P e es starts in
    let here = counts_all q w e (reaches-alive q w e (All-head (λ (e : MvEntry). e.low ≤ q) e es lows) (alive-open w e (omega (arith, mine.0, late)) mine.1)) in
    let rest = all_reach q v w es late (All-tail P e es starts) (All-tail (λ (e : MvEntry). e.low ≤ q) e es lows) in
    omega (arith, sum_by-cons (counted q w) e es, sum_by-cons (λ (e : MvEntry). e.value) e es, here, rest)

above_low : (q : ℕ) (d : MvEntry) (ds : List MvEntry) → q < d.low → All (λ y. d.low ≤ y.low) ds → All (λ e. q < e.low) (d ∷ ds)
above_low q d ds h all = All-cons (λ (e : MvEntry). q < e.low) d ds h (All-map (λ (y : MvEntry). d.low ≤ y.low) (λ (e : MvEntry). q < e.low) ds (λ y le. omega (arith, h, le)) all)

-- Below the cut the first half says what the whole does.
pub below_value : (q w v : ℕ) (xs : List MvEntry) (d : MvEntry) (ds : List MvEntry) → Ordered (xs ++ (d ∷ ds)) → q < d.low → value_of xs q w ≡ value_of (xs ++ (d ∷ ds)) q w
below_value q w v xs d ds o h =
    let none = none_above q w (d ∷ ds) (above_low q d ds h (lows_after xs d ds o)) in
    omega (arith, sum_by-append (counted q w) xs (d ∷ ds), none)

pub below_path : (q w v : ℕ) (xs : List MvEntry) (d : MvEntry) (ds : List MvEntry) → Ordered (xs ++ (d ∷ ds)) → q < d.low → path_child xs q w ≡ path_child (xs ++ (d ∷ ds)) q w
below_path q w v xs d ds o h =
    let none = no_path_above q w (d ∷ ds) (above_low q d ds h (lows_after xs d ds o)) in
    sym (path-append xs (d ∷ ds) q w ∙ ap (or_later (path_child xs q w)) none)

some_later : (a : Option ℕ) (c : ℕ) (o : Option ℕ) → or_later a (or_later (Some c) o) ≡ or_later (Some c) o
some_later a c None = refl
some_later a c (Some n) = refl

mod_first : (d t r : ℕ) → ((d + t % 2 ^ 128) % 2 ^ 128 + r) % 2 ^ 128 ≡ (t + (d + r)) % 2 ^ 128
mod_first d t r =
    mod-add-mod (d + t % 2 ^ 128) (2 ^ 128) r
    ∙ ap (λ (n : ℕ). n % 2 ^ 128) (let s : d + t % 2 ^ 128 + r ≡ (d + r) + t % 2 ^ 128 = omega arith in s)
    ∙ add-mod-mod (d + r) t (2 ^ 128)
    ∙ ap (λ (n : ℕ). n % 2 ^ 128) (let s : (d + r) + t ≡ t + (d + r) = omega arith in s)

-- From the cut on the second half does.
pub above_value : (q w v : ℕ) (xs : List MvEntry) (d : MvEntry) (ds : List MvEntry) → Ordered (xs ++ (d ∷ ds)) → All (λ e. (e.start ≡ v) × (e.end ≡ 4294967295)) (xs ++ (d ∷ ds)) → v ≤ w → d.low ≤ q
    → value_of (first_raised (total xs % 2 ^ 128) (d ∷ ds)) q w % 2 ^ 128 ≡ value_of (xs ++ (d ∷ ds)) q w % 2 ^ 128
above_value q w v xs d ds o starts late h =
    let P : MvEntry → Type 0 = λ e. (e.start ≡ v) × (e.end ≡ 4294967295) in
    let f : MvEntry → ℕ = counted q w in
    let x : MvEntry = with_more (total xs % 2 ^ 128) d in
    let mine : P d = All-at P xs d ds starts in
    let lows : All (λ e. e.low ≤ q) xs = All-map (λ (e : MvEntry). e.low < d.low) (λ (e : MvEntry). e.low ≤ q) xs (λ e less. omega (arith, less, h)) (lows_below v xs d ds o starts) in
    let first = all_reach q v w xs late (All-left P xs (d ∷ ds) starts) lows in
    let was = counts_all q w d (reaches-alive q w d h (alive-open w d (omega (arith, mine.0, late)) mine.1)) in
    let is = counts_all q w x (reaches-alive q w x h (alive-open w x (omega (arith, mine.0, late)) mine.1)) in
    let r : ℕ = value_of ds q w in
    let left : value_of (x ∷ ds) q w ≡ (d.value + total xs % 2 ^ 128) % 2 ^ 128 + r = sum_by-cons f x ds ∙ ap (λ (n : ℕ). n + r) is in
    let right : value_of (xs ++ (d ∷ ds)) q w ≡ total xs + (d.value + r) = omega (arith, sum_by-append f xs (d ∷ ds), sum_by-cons f d ds, first, was) in
    ap (λ (n : ℕ). n % 2 ^ 128) left ∙ mod_first d.value (total xs) r ∙ ap (λ (n : ℕ). n % 2 ^ 128) (sym right)

pub above_path : (q w v more : ℕ) (xs : List MvEntry) (d : MvEntry) (ds : List MvEntry) → All (λ e. (e.start ≡ v) × (e.end ≡ 4294967295)) (xs ++ (d ∷ ds)) → v ≤ w → d.low ≤ q
    → path_child (first_raised more (d ∷ ds)) q w ≡ path_child (xs ++ (d ∷ ds)) q w
above_path q w v more xs d ds starts late h =
    let P : MvEntry → Type 0 = λ e. (e.start ≡ v) × (e.end ≡ 4294967295) in
    let mine : P d = All-at P xs d ds starts in
    let b = reaches-alive q w d h (alive-open w d (omega (arith, mine.0, late)) mine.1) in
    let here : child_reached q w d ≡ Some d.child = rw b refl in
    sym (path-append xs (d ∷ ds) q w
    ∙ ap (λ (o : Option ℕ). or_later (path_child xs q w) (or_later o (path_child ds q w))) here
    ∙ some_later (path_child xs q w) d.child (path_child ds q w)
    ∙ ap (λ (o : Option ℕ). or_later o (path_child ds q w)) (sym here))
