-- What an addition makes of a node's entries, where it was taken in or beside a path.
use Rattle.std.proofs.Common.{◌≡◌, ℕ, ◌+◌, ◌%◌, ◌^◌, ◌<◌, ◌≤◌, inl, inr, Bool, true, IsTrue, ◌==◌, cond, List, ◌∷◌, ◌++◌, Option, Some, refl, sym, ap, ◌∙◌, subst, arith}
use Rattle.std.specs.List.{All}
use Rattle.std.proofs.Math.Nat.{mod-mod}
use Rattle.std.proofs.lemmas.Bool.{and_parts, eqb-true}
use Rattle.std.proofs.lemmas.Bool.Decides.{eqb_tells}
use Rattle.page_layout.specs.Children.{child_fits}
use Rattle.page_layout.specs.MvNode.{mv_keeps}
use Rattle.page_layout.specs.declared.mv_node.MvEntry.{MvEntry}
use Rattle.mv_pages.specs.Alive.{is_alive, is_alive_from, alive_one, alive_count, is_beyond, next_entry, value_of, path_child, AreEntriesOf, IsChangeable, added, value_above}
use Rattle.mv_pages.specs.Edits.{new_entry, raised, TakesIn, TakesAbove}
use Rattle.mv_pages.specs.Lows.{alive_lows, with_low}
use Rattle.mv_pages.proofs.Order.{All-at, ordered}
use Rattle.mv_pages.proofs.Putting.{put_all}
use Rattle.mv_pages.proofs.Reaching.{alive-open, alive-early, from-alive}
use Rattle.mv_pages.proofs.Changes.{CanChange, started, changed_all, changed_path}
use Rattle.mv_pages.proofs.Adding.{part_of_sum, raised_value, changed_count, changed_changeable, changed_entries, may_change, count_none, put_value, put_count, put_changeable, put_entries, next-found, next-none}
use Rattle.mv_pages.proofs.LivingLows.{none_alive, put_lows-dead, put_lows, lows_stay, changed_lows}
use Rattle.mv_pages.proofs.Later.{later_count}

-- an entry that is alive may be raised
may_raise : (level : ℕ) (es before : List MvEntry) (e : MvEntry) (after : List MvEntry) (v more : ℕ) → es ≡ before ++ (e ∷ after) → AreEntriesOf level es → IsChangeable v es → is_alive v e ≡ true
    → CanChange before e after v (raised e v more)
may_raise level es before e after v more whole entries can alive = may_change level es before e after v (raised e v more) whole entries can alive refl refl refl

child_stays : (level : ℕ) (es before : List MvEntry) (e : MvEntry) (after : List MvEntry) → es ≡ before ++ (e ∷ after) → AreEntriesOf level es → IsTrue (child_fits level e.child)
child_stays level es before e after whole entries =
    let mine = subst (AreEntriesOf level) whole entries in
    (and_parts _ (child_fits level e.child) (All-at (λ e. IsTrue (mv_keeps level e)) before e after mine.each)).1

alive_there : (v low : ℕ) (e : MvEntry) → is_alive_from v low e ≡ true → (e.low ≡ low) × (is_alive v e ≡ true)
alive_there v low e h = let p = and_parts (e.low == low) (is_alive v e) h in (eqb-true e.low low p.0, p.1)

alive_beyond : (key v : ℕ) (e : MvEntry) → is_beyond key v e ≡ true → is_alive v e ≡ true
alive_beyond key v e h = (and_parts _ (is_alive v e) h).1

pub taken_value : (level : ℕ) (es new : List MvEntry) (low v more : ℕ) → AreEntriesOf level es → IsChangeable v es → TakesIn es new low v more
    → (q w : ℕ) → value_of new q w % 2 ^ 128 ≡ (value_of es q w % 2 ^ 128 + added low v more q w) % 2 ^ 128
taken_value level es new low v more entries can (inl t) q w =
    let a = alive_there v low t.1 t.4 in
    raised_value t.0 t.1 t.2 v more new (may_raise level es t.0 t.1 t.2 v more t.3 entries can a.1) t.5 q w
    ∙ ap (λ (l : List MvEntry). (value_of l q w % 2 ^ 128 + added t.1.low v more q w) % 2 ^ 128) (sym t.3)
    ∙ ap (λ (l : ℕ). (value_of es q w % 2 ^ 128 + added l v more q w) % 2 ^ 128) a.0
taken_value level es new low v more entries can (inr t) q w =
    ap (λ (l : List MvEntry). value_of l q w % 2 ^ 128) t.1 ∙ put_value es low v more 0 q w

pub taken_entries : (es new : List MvEntry) (low v more : ℕ) → AreEntriesOf 1 es → IsChangeable v es → TakesIn es new low v more → AreEntriesOf 1 new
taken_entries es new low v more entries can (inl t) =
    let a = alive_there v low t.1 t.4 in
    changed_entries 1 t.0 t.1 t.2 v (raised t.1 v more) new (may_raise 1 es t.0 t.1 t.2 v more t.3 entries can a.1) t.5
    (subst (λ (l : List MvEntry). All (λ e. IsTrue (mv_keeps 1 e)) l) t.3 entries.each) (child_stays 1 es t.0 t.1 t.2 t.3 entries)
taken_entries es new low v more entries can (inr t) = subst (AreEntriesOf 1) (sym t.1) (put_entries 1 es low v more 0 entries can (count_none v low es t.0) refl)

pub taken_changeable : (level : ℕ) (es new : List MvEntry) (low v more : ℕ) → AreEntriesOf level es → IsChangeable v es → TakesIn es new low v more → IsChangeable v new
taken_changeable level es new low v more entries can (inl t) =
    let a = alive_there v low t.1 t.4 in
    changed_changeable t.0 t.1 t.2 v (raised t.1 v more) new (may_raise level es t.0 t.1 t.2 v more t.3 entries can a.1) t.5
taken_changeable level es new low v more entries can (inr t) = subst (IsChangeable v) (sym t.1) (put_changeable es low v more 0 can (count_none v low es t.0))

one_or : (l low n m : ℕ) → n ≡ m → (l ≡ low → m ≡ 1) → n ≡ cond (l == low) 1 m
one_or l low n m same one = elim (eqb_tells l low) [
  | inl at ↦ rw at.0 (same ∙ one at.1)
  | inr other ↦ rw other.0 same
]

pub taken_alive : (level : ℕ) (es new : List MvEntry) (low v more : ℕ) → AreEntriesOf level es → IsChangeable v es → TakesIn es new low v more
    → (l : ℕ) → alive_count new v l ≡ cond (l == low) 1 (alive_count es v l)
taken_alive level es new low v more entries can (inl t) l =
    let a = alive_there v low t.1 t.4 in
    let same : alive_count new v l ≡ alive_count es v l =
    changed_count t.0 t.1 t.2 v (raised t.1 v more) new (may_raise level es t.0 t.1 t.2 v more t.3 entries can a.1) t.5 l ∙ ap (λ (xs : List MvEntry). alive_count xs v l) (sym t.3) in
    one_or l low (alive_count new v l) (alive_count es v l) same
    (λ at.
    let here : is_alive_from v l t.1 ≡ true = from-alive v l t.1 (a.0 ∙ sym at) a.1 in
    let one : alive_one v l t.1 ≡ 1 = rw here refl in
    let part = part_of_sum (alive_one v l) t.0 t.1 t.2 in
    let whole = ap (λ (xs : List MvEntry). alive_count xs v l) t.3 in
    omega (arith, one, part, whole, can.once l))
taken_alive level es new low v more entries can (inr t) l = ap (λ (xs : List MvEntry). alive_count xs v l) t.1 ∙ put_count es low v more 0 (count_none v low es t.0) l

pub taken_lows : (es new : List MvEntry) (low v more : ℕ) (test : ℕ → Bool) → TakesIn es new low v more → All (λ e. IsTrue (test e.low)) es → IsTrue (test low) → All (λ e. IsTrue (test e.low)) new
taken_lows es new low v more test (inl t) all here =
    let a = alive_there v low t.1 t.4 in
    let own : IsTrue (test t.1.low) = ap test a.0 ∙ here in
    changed_all (λ e. IsTrue (test e.low)) t.0 t.1 t.2 v (raised t.1 v more) new t.5 (subst (All (λ e. IsTrue (test e.low))) t.3 all) own (λ _. own)
taken_lows es new low v more test (inr t) all here = subst (All (λ e. IsTrue (test e.low))) (sym t.1) (put_all (λ e. IsTrue (test e.low)) (new_entry low v more 0) es all here)

-- The lows that are alive before the version, and those from the version on.
pub lows_taken-early : (level : ℕ) (es new : List MvEntry) (low v more : ℕ) → AreEntriesOf level es → IsChangeable v es → TakesIn es new low v more → (w : ℕ) → w < v → alive_lows new w ≡ alive_lows es w
lows_taken-early level es new low v more entries can (inl t) w early =
    let a = alive_there v low t.1 t.4 in
    changed_lows t.0 t.1 t.2 v (raised t.1 v more) new (may_raise level es t.0 t.1 t.2 v more t.3 entries can a.1) t.5 w ∙ ap (λ (l : List MvEntry). alive_lows l w) (sym t.3)
lows_taken-early level es new low v more entries can (inr t) w early =
    ap (λ (l : List MvEntry). alive_lows l w) t.1 ∙ put_lows-dead w (new_entry low v more 0) es (alive-early w (new_entry low v more 0) early)

pub lows_taken-late : (level : ℕ) (es new : List MvEntry) (low v more : ℕ) → AreEntriesOf level es → IsChangeable v es → TakesIn es new low v more
    → (w : ℕ) → v ≤ w → alive_lows new w ≡ with_low low (alive_lows es w)
lows_taken-late level es new low v more entries can (inl t) w late =
    let a = alive_there v low t.1 t.4 in
    let may = may_raise level es t.0 t.1 t.2 v more t.3 entries can a.1 in
    let begun = started t.0 t.1 t.2 v (raised t.1 v more) may in
    let stay = lows_stay w t.0 t.1 t.2 may.order (alive-open w t.1 (omega (arith, begun, late)) may.stays) in
    changed_lows t.0 t.1 t.2 v (raised t.1 v more) new may t.5 w ∙ sym stay
    ∙ ap (λ (n : ℕ). with_low n (alive_lows (t.0 ++ (t.1 ∷ t.2)) w)) a.0 ∙ ap (λ (l : List MvEntry). with_low low (alive_lows l w)) (sym t.3)
lows_taken-late level es new low v more entries can (inr t) w late =
    let none = none_alive w low es (later_count v w low es can.last late can.past ∙ count_none v low es t.0) in
    ap (λ (l : List MvEntry). alive_lows l w) t.1 ∙ put_lows w (new_entry low v more 0) es (ordered es entries.order) (alive-open w (new_entry low v more 0) late refl) none

-- beside a path

pub above_value : (level : ℕ) (es new : List MvEntry) (key v more : ℕ) → AreEntriesOf level es → IsChangeable v es → TakesAbove es new key v more
    → (q w : ℕ) → value_of new q w % 2 ^ 128 ≡ (value_of es q w % 2 ^ 128 + value_above (next_entry es key v) v more q w) % 2 ^ 128
above_value level es new key v more entries can (inl t) q w =
    let next : next_entry es key v ≡ Some t.1 = ap (λ (l : List MvEntry). next_entry l key v) t.3 ∙ next-found key v t.0 t.1 t.2 t.5 t.4 in
    raised_value t.0 t.1 t.2 v more new (may_raise level es t.0 t.1 t.2 v more t.3 entries can (alive_beyond key v t.1 t.4)) t.6 q w
    ∙ ap (λ (l : List MvEntry). (value_of l q w % 2 ^ 128 + added t.1.low v more q w) % 2 ^ 128) (sym t.3)
    ∙ ap (λ (o : Option MvEntry). (value_of es q w % 2 ^ 128 + value_above o v more q w) % 2 ^ 128) (sym next)
above_value level es new key v more entries can (inr t) q w =
    let next = next-none key v es t.0 in
    let same : value_of es q w % 2 ^ 128 ≡ (value_of es q w % 2 ^ 128 + 0) % 2 ^ 128 =
    sym (mod-mod (value_of es q w) (2 ^ 128)) ∙ ap (λ (n : ℕ). n % 2 ^ 128) (let s : value_of es q w % 2 ^ 128 ≡ value_of es q w % 2 ^ 128 + 0 = omega arith in s) in
    ap (λ (l : List MvEntry). value_of l q w % 2 ^ 128) t.1 ∙ same ∙ ap (λ (o : Option MvEntry). (value_of es q w % 2 ^ 128 + value_above o v more q w) % 2 ^ 128) (sym next)

pub above_path : (level : ℕ) (es new : List MvEntry) (key v more : ℕ) → AreEntriesOf level es → IsChangeable v es → TakesAbove es new key v more
    → (q w : ℕ) → path_child new q w ≡ path_child es q w
above_path level es new key v more entries can (inl t) q w =
    changed_path t.0 t.1 t.2 v (raised t.1 v more) new (may_raise level es t.0 t.1 t.2 v more t.3 entries can (alive_beyond key v t.1 t.4)) t.6 refl q w
    ∙ ap (λ (l : List MvEntry). path_child l q w) (sym t.3)
above_path level es new key v more entries can (inr t) q w = ap (λ (l : List MvEntry). path_child l q w) t.1

pub above_entries : (level : ℕ) (es new : List MvEntry) (key v more : ℕ) → AreEntriesOf level es → IsChangeable v es → TakesAbove es new key v more → AreEntriesOf level new
above_entries level es new key v more entries can (inl t) =
    changed_entries level t.0 t.1 t.2 v (raised t.1 v more) new (may_raise level es t.0 t.1 t.2 v more t.3 entries can (alive_beyond key v t.1 t.4)) t.6
    (subst (λ (l : List MvEntry). All (λ e. IsTrue (mv_keeps level e)) l) t.3 entries.each) (child_stays level es t.0 t.1 t.2 t.3 entries)
above_entries level es new key v more entries can (inr t) = subst (AreEntriesOf level) (sym t.1) entries

pub above_changeable : (level : ℕ) (es new : List MvEntry) (key v more : ℕ) → AreEntriesOf level es → IsChangeable v es → TakesAbove es new key v more → IsChangeable v new
above_changeable level es new key v more entries can (inl t) =
    changed_changeable t.0 t.1 t.2 v (raised t.1 v more) new (may_raise level es t.0 t.1 t.2 v more t.3 entries can (alive_beyond key v t.1 t.4)) t.6
above_changeable level es new key v more entries can (inr t) = subst (IsChangeable v) (sym t.1) can

pub above_alive : (level : ℕ) (es new : List MvEntry) (key v more : ℕ) → AreEntriesOf level es → IsChangeable v es → TakesAbove es new key v more
    → (l : ℕ) → alive_count new v l ≡ alive_count es v l
above_alive level es new key v more entries can (inl t) l =
    changed_count t.0 t.1 t.2 v (raised t.1 v more) new (may_raise level es t.0 t.1 t.2 v more t.3 entries can (alive_beyond key v t.1 t.4)) t.6 l
    ∙ ap (λ (xs : List MvEntry). alive_count xs v l) (sym t.3)
above_alive level es new key v more entries can (inr t) l = ap (λ (xs : List MvEntry). alive_count xs v l) t.1

pub above_lows : (es new : List MvEntry) (key v more : ℕ) (test : ℕ → Bool) → TakesAbove es new key v more → All (λ e. IsTrue (test e.low)) es → All (λ e. IsTrue (test e.low)) new
above_lows es new key v more test (inl t) all =
    let mine = subst (All (λ e. IsTrue (test e.low))) t.3 all in
    let own : IsTrue (test t.1.low) = All-at (λ e. IsTrue (test e.low)) t.0 t.1 t.2 mine in
    changed_all (λ e. IsTrue (test e.low)) t.0 t.1 t.2 v (raised t.1 v more) new t.6 mine own (λ _. own)
above_lows es new key v more test (inr t) all = subst (All (λ e. IsTrue (test e.low))) (sym t.1) all

pub lows_beside : (level : ℕ) (es new : List MvEntry) (key v more : ℕ) → AreEntriesOf level es → IsChangeable v es → TakesAbove es new key v more → (w : ℕ) → alive_lows new w ≡ alive_lows es w
lows_beside level es new key v more entries can (inl t) w =
    changed_lows t.0 t.1 t.2 v (raised t.1 v more) new (may_raise level es t.0 t.1 t.2 v more t.3 entries can (alive_beyond key v t.1 t.4)) t.6 w
    ∙ ap (λ (l : List MvEntry). alive_lows l w) (sym t.3)
lows_beside level es new key v more entries can (inr t) w = ap (λ (l : List MvEntry). alive_lows l w) t.1
