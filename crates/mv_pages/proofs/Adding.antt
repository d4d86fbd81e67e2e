-- What an addition to one entry makes of a node.
use Rattle.std.proofs.Common.{◌≡◌, ℕ, ◌+◌, ◌-◌, ◌%◌, ◌^◌, ◌<◌, ◌≤◌, inl, inr, Bool, true, false, IsTrue, ◌&&◌, ◌==◌, cond, nat_lt, nat_le, List, [], ◌∷◌, ◌++◌, Some, None, refl, sym, ap, ◌∙◌, subst, arith}
use Rattle.std.specs.List.{All, sum_by}
use Rattle.std.proofs.Math.Nat.{add-mod-mod, mod-mod}
use Rattle.std.proofs.lemmas.Bool.{cases_lt, and_parts, and_left, and_right, and_from, ltb-true, lt-ltb, le-leb, lt-leb}
use Rattle.std.proofs.lemmas.Bool.Decides.{eqb_tells}
use Rattle.std.proofs.lemmas.List.Elements.{All-head, All-tail}
use Rattle.std.proofs.lemmas.List.Sums.{sum_by-cons, sum_by-append}
use Rattle.page_layout.specs.Children.{child_fits}
use Rattle.page_layout.specs.MvNode.{mv_keeps}
use Rattle.page_layout.specs.declared.mv_node.MvEntry.{MvEntry}
use Rattle.mv_pages.specs.Alive.{is_alive, reaches, counted, value_of, is_beyond, next_entry, is_alive_from, alive_one, alive_count, AreEntriesOf, IsPastOf, IsChangeable, added}
use Rattle.mv_pages.specs.Edits.{closed, new_entry, raised, put_in, IsChanged}
use Rattle.mv_pages.proofs.Order.{ordered, adjacent, All-at, All-map}
use Rattle.mv_pages.proofs.Putting.{put_sum, put_all, put_ordered}
use Rattle.mv_pages.proofs.Reaching.{alive-open, alive-early, alive-over, reaches-alive, reaches-below, reaches-dead, from-alive, from-dead, from-other}
use Rattle.mv_pages.proofs.Changes.{CanChange, started, alive_is_open, changed_all, changed_sum, changed_order, closed_reaches, all_closed, all_before}

mod_move : (n o a b k : ℕ) → n + a ≡ o + b → a ≤ o → b % 2 ^ 128 ≡ (a + k) % 2 ^ 128 → n % 2 ^ 128 ≡ (o + k) % 2 ^ 128
mod_move n o a b k sum le same =
    let r : ℕ = o - a in
    let left : n ≡ r + b = omega (arith, sum, le) in
    let right : r + (a + k) ≡ o + k = omega (arith, le) in
    ap (λ (t : ℕ). t % 2 ^ 128) left ∙ sym (add-mod-mod r b (2 ^ 128)) ∙ ap (λ (t : ℕ). (r + t) % 2 ^ 128) same ∙ add-mod-mod r (a + k) (2 ^ 128) ∙ ap (λ (t : ℕ). t % 2 ^ 128) right

pub part_of_sum : (f : MvEntry → ℕ) (before : List MvEntry) (e : MvEntry) (after : List MvEntry) → f e ≤ sum_by f (before ++ (e ∷ after))
part_of_sum f before e after = omega (arith, sum_by-append f before (e ∷ after), sum_by-cons f e after)

pub counts_none : (q w : ℕ) (e : MvEntry) → reaches q w e ≡ false → counted q w e ≡ 0
counts_none q w e h = rw h refl

pub counts_all : (q w : ℕ) (e : MvEntry) → reaches q w e ≡ true → counted q w e ≡ e.value
counts_all q w e h = rw h refl

added-below : (low v x q w : ℕ) → q < low → added low v x q w ≡ 0
added-below low v x q w h = let b : (nat_le low q && nat_le v w) ≡ false = and_left (nat_le low q) (nat_le v w) (lt-leb low q h) in rw b refl

added-early : (low v x q w : ℕ) → w < v → added low v x q w ≡ 0
added-early low v x q w h = let b : (nat_le low q && nat_le v w) ≡ false = and_right (nat_le low q) (nat_le v w) (lt-leb v w h) in rw b refl

added-all : (low v x q w : ℕ) → low ≤ q → v ≤ w → added low v x q w ≡ x
added-all low v x q w h k = let b : (nat_le low q && nat_le v w) ≡ true = and_from (nat_le low q) (nat_le v w) (le-leb low q h) (le-leb v w k) in rw b refl

pub counted_new : (q w low v value child : ℕ) → counted q w (new_entry low v value child) ≡ added low v value q w
counted_new q w low v value child = elim (cases_lt q low) [
  | inl below ↦ counts_none q w (new_entry low v value child) (reaches-below q w (new_entry low v value child) below) ∙ sym (added-below low v value q w below)
  | inr at ↦ elim (cases_lt w v) [
    | inl early ↦ counts_none q w (new_entry low v value child) (reaches-dead q w (new_entry low v value child) (alive-early w (new_entry low v value child) early)) ∙ sym (added-early low v value q w early)
    | inr late ↦ counts_all q w (new_entry low v value child) (reaches-alive q w (new_entry low v value child) at (alive-open w (new_entry low v value child) late refl)) ∙ sym (added-all low v value q w at late)
  ]
]

pub counted_open : (q w : ℕ) (e : MvEntry) → e.end ≡ 4294967295 → counted q w e ≡ added e.low e.start e.value q w
counted_open q w e stays = elim (cases_lt q e.low) [
  | inl below ↦ counts_none q w e (reaches-below q w e below) ∙ sym (added-below e.low e.start e.value q w below)
  | inr at ↦ elim (cases_lt w e.start) [
    | inl early ↦ counts_none q w e (reaches-dead q w e (alive-early w e early)) ∙ sym (added-early e.low e.start e.value q w early)
    | inr late ↦ counts_all q w e (reaches-alive q w e at (alive-open w e late stays)) ∙ sym (added-all e.low e.start e.value q w at late)
  ]
]

-- what an entry and the addition count for together
renewed_part : (q w v : ℕ) (e : MvEntry) (value child more : ℕ) → value % 2 ^ 128 ≡ (e.value + more) % 2 ^ 128 → e.end ≡ 4294967295 → e.start ≤ v → v ≤ w
    → counted q w (new_entry e.low v value child) % 2 ^ 128 ≡ (counted q w e + added e.low v more q w) % 2 ^ 128
renewed_part q w v e value child more sum stays begun late =
    let new = counted_new q w e.low v value child in
    let old = counted_open q w e stays in
    elim (cases_lt q e.low) [
      | inl below ↦
          let a : counted q w (new_entry e.low v value child) ≡ 0 = new ∙ added-below e.low v value q w below in
          let b : counted q w e ≡ 0 = old ∙ added-below e.low e.start e.value q w below in
          let k = added-below e.low v more q w below in
          let s : counted q w (new_entry e.low v value child) ≡ counted q w e + added e.low v more q w = omega (arith, a, b, k) in
          ap (λ (t : ℕ). t % 2 ^ 128) s
      | inr at ↦
          let a : counted q w (new_entry e.low v value child) ≡ value = new ∙ added-all e.low v value q w at late in
          let b : counted q w e ≡ e.value = old ∙ added-all e.low e.start e.value q w at (omega (arith, begun, late)) in
          let k = added-all e.low v more q w at late in
          let s : e.value + more ≡ counted q w e + added e.low v more q w = omega (arith, b, k) in
          ap (λ (t : ℕ). t % 2 ^ 128) a ∙ sum ∙ ap (λ (t : ℕ). t % 2 ^ 128) s
    ]

-- The value after an entry was changed to one of so much more.
pub renewed_value : (before : List MvEntry) (e : MvEntry) (after : List MvEntry) (v value child more : ℕ) (new : List MvEntry) → value % 2 ^ 128 ≡ (e.value + more) % 2 ^ 128
    → CanChange before e after v (new_entry e.low v value child) → IsChanged before e after v (new_entry e.low v value child) new
    → (q w : ℕ) → value_of new q w % 2 ^ 128 ≡ (value_of (before ++ (e ∷ after)) q w % 2 ^ 128 + added e.low v more q w) % 2 ^ 128
renewed_value before e after v value child more new fits can c q w =
    let f : MvEntry → ℕ = counted q w in
    let x : MvEntry = new_entry e.low v value child in
    let old : List MvEntry = before ++ (e ∷ after) in
    let k : ℕ = added e.low v more q w in
    let begun = started before e after v x can in
    let le = part_of_sum f before e after in
    let outer : (sum_by f old + k) % 2 ^ 128 ≡ (sum_by f old % 2 ^ 128 + k) % 2 ^ 128 =
    ap (λ (t : ℕ). t % 2 ^ 128) (let s : sum_by f old + k ≡ k + sum_by f old = omega arith in s) ∙ sym (add-mod-mod k (sum_by f old) (2 ^ 128))
    ∙ ap (λ (t : ℕ). t % 2 ^ 128) (let s : k + sum_by f old % 2 ^ 128 ≡ sum_by f old % 2 ^ 128 + k = omega arith in s) in
    elim (cases_lt w v) [
      | inl early ↦
          let a : f x ≡ 0 = counted_new q w e.low v value child ∙ added-early e.low v value q w early in
          let none : k ≡ 0 = added-early e.low v more q w early in
          let keep : sum_by f new ≡ sum_by f old + k = elim (changed_sum f before e after v x new c) [
            | inl r ↦
                let b : f e ≡ 0 = counts_none q w e (reaches-dead q w e (alive-early w e (omega (arith, early, r.0)))) in
                omega (arith, r.1, a, b, none)
            | inr r ↦
                let b : f (closed e v) ≡ f e = ap (λ (t : Bool). cond t e.value 0) (closed_reaches q w v e early can.stays) in
                omega (arith, r.1, a, b, none)
          ] in
          ap (λ (t : ℕ). t % 2 ^ 128) keep ∙ outer
      | inr late ↦
          let part = renewed_part q w v e value child more fits can.stays begun late in
          let gone : f (closed e v) ≡ 0 = counts_none q w (closed e v) (reaches-dead q w (closed e v) (alive-over w (closed e v) late can.last)) in
          let sum : sum_by f new + f e ≡ sum_by f old + f x = elim (changed_sum f before e after v x new c) [
            | inl r ↦ r.1
            | inr r ↦ omega (arith, r.1, gone)
          ] in
          mod_move (sum_by f new) (sum_by f old) (f e) (f x) k sum le part ∙ outer
    ]

-- The value after an addition to an entry.
pub raised_value : (before : List MvEntry) (e : MvEntry) (after : List MvEntry) (v more : ℕ) (new : List MvEntry) → CanChange before e after v (raised e v more) → IsChanged before e after v (raised e v more) new
    → (q w : ℕ) → value_of new q w % 2 ^ 128 ≡ (value_of (before ++ (e ∷ after)) q w % 2 ^ 128 + added e.low v more q w) % 2 ^ 128
raised_value before e after v more new can c q w = renewed_value before e after v ((e.value + more) % 2 ^ 128) e.child more new (mod-mod (e.value + more) (2 ^ 128)) can c q w

-- The counts of alive entries after a change.
pub changed_count : (before : List MvEntry) (e : MvEntry) (after : List MvEntry) (v : ℕ) (x : MvEntry) (new : List MvEntry) → CanChange before e after v x → IsChanged before e after v x new
    → (low : ℕ) → alive_count new v low ≡ alive_count (before ++ (e ∷ after)) v low
changed_count before e after v x new can c low =
    let f : MvEntry → ℕ = alive_one v low in
    let begun = started before e after v x can in
    let was : is_alive v e ≡ true = alive-open v e begun can.stays in
    let is : is_alive v x ≡ true = alive-open v x (omega (arith, can.starts)) can.ends in
    let same : f x ≡ f e = ap (λ (n : ℕ). cond (n == low && is_alive v x) 1 0) can.low ∙ ap (λ (b : Bool). cond (e.low == low && b) 1 0) (is ∙ sym was) in
    let dead : is_alive_from v low (closed e v) ≡ false = from-dead v low (closed e v) (alive-over v (closed e v) (omega arith) can.last) in
    let gone : f (closed e v) ≡ 0 = rw dead refl in
    elim (changed_sum f before e after v x new c) [
      | inl r ↦ omega (arith, r.1, same)
      | inr r ↦ omega (arith, r.1, same, gone)
    ]

pub changed_changeable : (before : List MvEntry) (e : MvEntry) (after : List MvEntry) (v : ℕ) (x : MvEntry) (new : List MvEntry) → CanChange before e after v x → IsChanged before e after v x new
    → IsChangeable v new
changed_changeable before e after v x new can c =
    let begun = started before e after v x can in
    record {
      last = can.last;
      past = changed_all (IsPastOf v) before e after v x new c can.past (omega (arith, can.starts), inl can.ends) (λ _. (begun, inr (omega arith)));
      once = λ low. omega (arith, changed_count before e after v x new can c low, can.once low);
    }

keeps_parts : (level : ℕ) (e : MvEntry) → IsTrue (mv_keeps level e) → (e.start < e.end) × IsTrue (child_fits level e.child)
keeps_parts level e h = let p = and_parts (nat_lt e.start e.end) (child_fits level e.child) h in (ltb-true e.start e.end p.0, p.1)

keeps_from : (level : ℕ) (e : MvEntry) → e.start < e.end → IsTrue (child_fits level e.child) → IsTrue (mv_keeps level e)
keeps_from level e h k = and_from (nat_lt e.start e.end) (child_fits level e.child) (lt-ltb e.start e.end h) k

pub lives_of : (level : ℕ) (es : List MvEntry) → AreEntriesOf level es → All (λ e. e.start < e.end) es
lives_of level es h = All-map (λ e. IsTrue (mv_keeps level e)) (λ e. e.start < e.end) es (λ e k. (keeps_parts level e k).0) h.each

pub changed_entries : (level : ℕ) (before : List MvEntry) (e : MvEntry) (after : List MvEntry) (v : ℕ) (x : MvEntry) (new : List MvEntry) → CanChange before e after v x → IsChanged before e after v x new
    → All (λ e. IsTrue (mv_keeps level e)) (before ++ (e ∷ after)) → IsTrue (child_fits level x.child) → AreEntriesOf level new
changed_entries level before e after v x new can c each fits =
    let begun = started before e after v x can in
    let mine = keeps_parts level e (All-at (λ e. IsTrue (mv_keeps level e)) before e after each) in
    record {
      each = changed_all (λ e. IsTrue (mv_keeps level e)) before e after v x new c each
          (keeps_from level x (omega (arith, can.starts, can.ends, can.last)) fits)
          (λ late. keeps_from level (closed e v) (omega (arith, begun, late)) mine.1);
      order = adjacent new (changed_order before e after v x new can c);
    }

-- an entry that is alive may be changed
pub may_change : (level : ℕ) (es before : List MvEntry) (e : MvEntry) (after : List MvEntry) (v : ℕ) (x : MvEntry) → es ≡ before ++ (e ∷ after) → AreEntriesOf level es → IsChangeable v es → is_alive v e ≡ true
    → x.low ≡ e.low → x.start ≡ v → x.end ≡ 4294967295 → CanChange before e after v x
may_change level es before e after v x whole entries can alive low starts ends =
    let here = subst (IsChangeable v) whole can in
    let mine = subst (AreEntriesOf level) whole entries in
    record {
      order = ordered (before ++ (e ∷ after)) mine.order;
      past = here.past;
      lives = lives_of level (before ++ (e ∷ after)) mine;
      once = here.once;
      last = can.last;
      stays = alive_is_open v e can.last (All-at (IsPastOf v) before e after here.past) alive;
      low = low;
      starts = starts;
      ends = ends;
    }

-- A new entry, where none is alive at its low.

pub count_none : (v low : ℕ) (es : List MvEntry) → All (λ e. is_alive_from v low e ≡ false) es → alive_count es v low ≡ 0
count_none v low [] none = refl
count_none v low (e ∷ es) none =
    let dead : is_alive_from v low e ≡ false = All-head (λ (e : MvEntry). is_alive_from v low e ≡ false) e es none in
    let here : alive_one v low e ≡ 0 = rw dead refl in
    let rest = count_none v low es (All-tail (λ (e : MvEntry). is_alive_from v low e ≡ false) e es none) in
    omega (arith, sum_by-cons (alive_one v low) e es, here, rest)

pub put_value : (es : List MvEntry) (low v value child q w : ℕ) → value_of (put_in (new_entry low v value child) es) q w % 2 ^ 128 ≡ (value_of es q w % 2 ^ 128 + added low v value q w) % 2 ^ 128
put_value es low v value child q w =
    let sum = put_sum (counted q w) (new_entry low v value child) es in
    let part = counted_new q w low v value child in
    let k : ℕ = added low v value q w in
    let t : value_of (put_in (new_entry low v value child) es) q w ≡ k + value_of es q w = omega (arith, sum, part) in
    ap (λ (n : ℕ). n % 2 ^ 128) t ∙ sym (add-mod-mod k (value_of es q w) (2 ^ 128))
    ∙ ap (λ (n : ℕ). n % 2 ^ 128) (let s : k + value_of es q w % 2 ^ 128 ≡ value_of es q w % 2 ^ 128 + k = omega arith in s)

pub put_count : (es : List MvEntry) (low v value child : ℕ) → alive_count es v low ≡ 0
    → (l : ℕ) → alive_count (put_in (new_entry low v value child) es) v l ≡ cond (l == low) 1 (alive_count es v l)
put_count es low v value child none l =
    let x : MvEntry = new_entry low v value child in
    let sum = put_sum (alive_one v l) x es in
    let alive : is_alive v x ≡ true = alive-open v x (omega arith) refl in
    elim (eqb_tells l low) [
      | inl same ↦
          let here : is_alive_from v l x ≡ true = from-alive v l x (sym same.1) alive in
          let one : alive_one v l x ≡ 1 = rw here refl in
          let was : alive_count es v l ≡ 0 = ap (alive_count es v) same.1 ∙ none in
          let all : alive_count (put_in x es) v l ≡ 1 = omega (arith, sum, one, was) in
          rw same.0 all
      | inr other ↦
          let there : is_alive_from v l x ≡ false = from-other v l x (λ e. other.1 (sym e)) in
          let no : alive_one v l x ≡ 0 = rw there refl in
          let all : alive_count (put_in x es) v l ≡ alive_count es v l = omega (arith, sum, no) in
          rw other.0 all
    ]

count_once : (b : Bool) (n : ℕ) → n ≤ 1 → cond b 1 n ≤ 1
count_once true n h = omega arith
count_once false n h = h

pub put_changeable : (es : List MvEntry) (low v value child : ℕ) → IsChangeable v es → alive_count es v low ≡ 0 → IsChangeable v (put_in (new_entry low v value child) es)
put_changeable es low v value child can none = record {
  last = can.last;
  past = put_all (IsPastOf v) (new_entry low v value child) es can.past (omega arith, inl refl);
  once = λ l. subst (λ (n : ℕ). n ≤ 1) (sym (put_count es low v value child none l)) (count_once (l == low) (alive_count es v l) (can.once l));
}

pub put_entries : (level : ℕ) (es : List MvEntry) (low v value child : ℕ) → AreEntriesOf level es → IsChangeable v es → alive_count es v low ≡ 0 → IsTrue (child_fits level child)
    → AreEntriesOf level (put_in (new_entry low v value child) es)
put_entries level es low v value child entries can none fits =
    let x : MvEntry = new_entry low v value child in
    let order = put_ordered x es (ordered es entries.order) (all_before v x es refl (lives_of level es entries) (all_closed v low es can.past none)) in
    record {
      each = put_all (λ e. IsTrue (mv_keeps level e)) x es entries.each (keeps_from level x can.last fits);
      order = adjacent (put_in x es) order;
    }

-- The first entry above a key.

pub next-found : (key v : ℕ) (before : List MvEntry) (e : MvEntry) (after : List MvEntry) → All (λ f. is_beyond key v f ≡ false) before → is_beyond key v e ≡ true
    → next_entry (before ++ (e ∷ after)) key v ≡ Some e
next-found key v [] e after none here = rw here refl
next-found key v (b ∷ before) e after none here =
    let no : is_beyond key v b ≡ false = All-head (λ (f : MvEntry). is_beyond key v f ≡ false) b before none in
    rw no (next-found key v before e after (All-tail (λ (f : MvEntry). is_beyond key v f ≡ false) b before none) here)

pub next-none : (key v : ℕ) (es : List MvEntry) → All (λ f. is_beyond key v f ≡ false) es → next_entry es key v ≡ None
next-none key v [] none = refl
next-none key v (e ∷ es) none =
    let no : is_beyond key v e ≡ false = All-head (λ (f : MvEntry). is_beyond key v f ≡ false) e es none in
    rw no (next-none key v es (All-tail (λ (f : MvEntry). is_beyond key v f ≡ false) e es none))
