-- What a node says once a child of it was replaced.
use Rattle.std.proofs.Common.{◌≡◌, ℕ, ◌+◌, ◌%◌, ◌^◌, ◌<◌, ◌≤◌, inl, inr, Bool, true, false, IsTrue, ◌&&◌, ◌==◌, cond, nat_lt, nat_le, List, [], ◌∷◌, ◌++◌, Option, Some, None, refl, sym, ap, ◌∙◌, subst, arith}
use Rattle.std.specs.List.{All, sum_by}
use Rattle.std.proofs.Math.Nat.{mod-mod}
use Rattle.std.proofs.lemmas.Bool.{cases_lt, cases_Bool, and_parts, leb-true, le-leb, lt-leb, ne_eqb, ltb-true}
use Rattle.std.proofs.lemmas.List.Elements.{All-cons, All-nil, All-append, All-tail}
use Rattle.page_layout.specs.Children.{child_fits}
use Rattle.page_layout.specs.MvNode.{mv_keeps}
use Rattle.page_layout.specs.declared.mv_node.MvEntry.{MvEntry}
use Rattle.mv_pages.specs.Alive.{is_alive, reaches, value_of, or_later, child_reached, path_child, path_entry, is_beyond, next_entry, is_alive_from, alive_count, AreEntriesOf, IsPastOf, IsChangeable, added}
use Rattle.mv_pages.specs.Edits.{closed, new_entry, IsChanged, LeadsAnew, Cut, with_second, BeginsBy, BeginsBelow, EndsAfter, CutsWithin, page_for, count_with, OfCut}
use Rattle.mv_pages.specs.Lows.{alive_lows, with_cut}
use Rattle.mv_pages.proofs.LivingLows.{none_alive, put_lows-dead, put_lows, changed_lows}
use Rattle.mv_pages.proofs.Later.{later_count}
use Rattle.mv_pages.proofs.Order.{Ordered, All-map, All-at, All-right, lows_before}
use Rattle.mv_pages.proofs.Paths.{path-append}
use Rattle.mv_pages.proofs.Putting.{put_all, put_path-dead}
use Rattle.mv_pages.proofs.Reaching.{alive-open, alive-early, reaches-alive, reaches-below, from-other, from-dead}
use Rattle.mv_pages.proofs.Changes.{CanChange, changed_all, changed_sum, changed_order, changed_path-early, changed_path-late, child-dead}
use Rattle.mv_pages.proofs.Adding.{renewed_value, changed_count, changed_changeable, changed_entries, may_change, count_none, put_value, put_count, put_changeable, put_entries}
use Rattle.mv_pages.proofs.Leading.{child-none, child-some, no_path, entry-found, next_skip, beyond_out, none_later, above_one, next_counts, path_some, put_path-under, put_path-last, none_from}

-- The parts of the entries at which a path was led anew.
record Parts (level : ℕ) (es new : List MvEntry) (key v child : ℕ) (before : List MvEntry) (e : MvEntry) (after : List MvEntry) : Type 0 where
  pub whole : es ≡ before ++ (e ∷ after)
  pub can : CanChange before e after v (new_entry e.low v e.value child)
  pub made : IsChanged before e after v (new_entry e.low v e.value child) new
  pub at : e.low ≤ key
  pub path : path_entry es key v ≡ Some e
  pub next : next_entry es key v ≡ next_entry after key v
  pub passed : All (λ f. reaches key v f ≡ false) after
  pub order : Ordered (e ∷ after)
  pub past : All (IsPastOf v) after
  pub lows : All (λ f. f.low ≤ e.low) before

order_from : (xs ys : List MvEntry) → Ordered (xs ++ ys) → Ordered ys
order_from [] ys o = o
order_from (x ∷ xs) ys o = order_from xs ys o.1

parts_of : (level : ℕ) (es new : List MvEntry) (key v child : ℕ) → AreEntriesOf level es → IsChangeable v es → (t : LeadsAnew es new key v child) → Parts level es new key v child t.0 t.1 t.2
parts_of level es new key v child entries can t =
    let r = and_parts (nat_le t.1.low key) (is_alive v t.1) t.4 in
    let at : t.1.low ≤ key = leb-true t.1.low key r.0 in
    let may = may_change level es t.0 t.1 t.2 v (new_entry t.1.low v t.1.value child) t.3 entries can r.1 refl refl refl in
    let lows = lows_before t.0 t.1 t.2 may.order in
    let under : All (λ x. x.low ≤ key) t.0 = All-map (λ (f : MvEntry). f.low ≤ t.1.low) (λ (f : MvEntry). f.low ≤ key) t.0 (λ f le. omega (arith, le, at)) lows in
    record {
      whole = t.3;
      can = may;
      made = t.6;
      at = at;
      path = ap (λ (l : List MvEntry). path_entry l key v) t.3 ∙ entry-found key v t.0 t.1 t.2 t.4 t.5;
      next = ap (λ (l : List MvEntry). next_entry l key v) t.3 ∙ next_skip key v t.0 (t.1 ∷ t.2) under ∙ next_skip key v (t.1 ∷ []) t.2 (All-cons (λ (x : MvEntry). x.low ≤ key) t.1 [] at (All-nil (λ (x : MvEntry). x.low ≤ key)));
      passed = t.5;
      order = order_from t.0 (t.1 ∷ t.2) may.order;
      past = All-tail (IsPastOf v) t.1 t.2 (All-right (IsPastOf v) t.0 (t.1 ∷ t.2) may.past);
      lows = lows;
    }

added_nothing : (low v q w : ℕ) → added low v 0 q w ≡ 0
added_nothing low v q w = elim (cases_Bool (nat_le low q && nat_le v w)) [
  | inl a ↦ rw a refl
  | inr b ↦ rw b refl
]

plus_nothing : (n k : ℕ) → k ≡ 0 → (n % 2 ^ 128 + k) % 2 ^ 128 ≡ n % 2 ^ 128
plus_nothing n k none = ap (λ (t : ℕ). t % 2 ^ 128) (let s : n % 2 ^ 128 + k ≡ n % 2 ^ 128 = omega (arith, none) in s) ∙ mod-mod n (2 ^ 128)

lead_value : (level : ℕ) (es new : List MvEntry) (key v child : ℕ) (before : List MvEntry) (e : MvEntry) (after : List MvEntry) → Parts level es new key v child before e after
    → (q w : ℕ) → value_of new q w % 2 ^ 128 ≡ value_of es q w % 2 ^ 128
lead_value level es new key v child before e after p q w =
    renewed_value before e after v e.value child 0 new (ap (λ (t : ℕ). t % 2 ^ 128) (let s : e.value ≡ e.value + 0 = omega arith in s)) p.can p.made q w
    ∙ plus_nothing (value_of (before ++ (e ∷ after)) q w) (added e.low v 0 q w) (added_nothing e.low v q w)
    ∙ ap (λ (l : List MvEntry). value_of l q w % 2 ^ 128) (sym p.whole)

second_value : (v : ℕ) (second : Option Cut) (es new : List MvEntry) → new ≡ with_second v second es → (q w : ℕ) → value_of new q w % 2 ^ 128 ≡ value_of es q w % 2 ^ 128
second_value v None es new is q w = ap (λ (l : List MvEntry). value_of l q w % 2 ^ 128) is
second_value v (Some s) es new is q w =
    ap (λ (l : List MvEntry). value_of l q w % 2 ^ 128) is ∙ put_value es s.0 v 0 s.1 q w ∙ plus_nothing (value_of es q w) (added s.0 v 0 q w) (added_nothing s.0 v q w)

pub anew_value : (level : ℕ) (es mid new : List MvEntry) (key v child : ℕ) (second : Option Cut) → AreEntriesOf level es → IsChangeable v es → LeadsAnew es mid key v child → new ≡ with_second v second mid
    → (q w : ℕ) → value_of new q w % 2 ^ 128 ≡ value_of es q w % 2 ^ 128
anew_value level es mid new key v child second entries can t is q w =
    second_value v second mid new is q w ∙ lead_value level es mid key v child t.0 t.1 t.2 (parts_of level es mid key v child entries can t) q w

-- the cut lies between the path's entry and the next
below_cut : (o : Option MvEntry) (e : MvEntry) (cut : ℕ) → o ≡ Some e → BeginsBelow o cut → e.low < cut
below_cut o e cut is h = subst (λ (o : Option MvEntry). BeginsBelow o cut) is h

by_key : (o : Option MvEntry) (e : MvEntry) (q : ℕ) → o ≡ Some e → BeginsBy o q → e.low ≤ q
by_key o e q is h = subst (λ (o : Option MvEntry). BeginsBy o q) is h

-- no entry is alive at a cut
cut_free : (level : ℕ) (es new : List MvEntry) (key v child : ℕ) (before : List MvEntry) (e : MvEntry) (after : List MvEntry) → Parts level es new key v child before e after
    → (cut : ℕ) → e.low < cut → EndsAfter (next_entry es key v) cut → alive_count new v cut ≡ 0
cut_free level es new key v child before e after p cut above ends =
    let P : MvEntry → Type 0 = λ f. is_alive_from v cut f ≡ false in
    let out = beyond_out key v cut after p.order.1 p.passed (subst (λ (o : Option MvEntry). EndsAfter o cut) p.next ends) in
    let low : All P before = All-map (λ (f : MvEntry). f.low ≤ e.low) P before (λ f le. from-other v cut f (λ same. omega (arith, same, le, above))) p.lows in
    let high : All P after = All-map (λ (f : MvEntry). is_alive v f ≡ true → cut < f.low) P after (λ f h. elim (cases_Bool (is_alive v f)) [
      | inl alive ↦ from-other v cut f (λ same. omega (arith, same, h alive))
      | inr dead ↦ from-dead v cut f dead
    ]) out in
    let all : All P (before ++ (e ∷ after)) = All-append P before (e ∷ after) low (All-cons P e after (from-other v cut e (λ same. omega (arith, same, above))) high) in
    changed_count before e after v (new_entry e.low v e.value child) new p.can p.made cut ∙ count_none v cut (before ++ (e ∷ after)) all

index_child : (level child : ℕ) → 2 ≤ level → 3 ≤ child → IsTrue (child_fits level child)
index_child level child high fits =
    let b : (level == 1) ≡ false = ne_eqb level 1 (λ same. omega (arith, same, high)) in
    rw b (le-leb 3 child fits)

lead_entries : (level : ℕ) (es new : List MvEntry) (key v child : ℕ) (before : List MvEntry) (e : MvEntry) (after : List MvEntry) → Parts level es new key v child before e after
    → AreEntriesOf level es → 2 ≤ level → 3 ≤ child → AreEntriesOf level new
lead_entries level es new key v child before e after p entries high fits =
    changed_entries level before e after v (new_entry e.low v e.value child) new p.can p.made (subst (λ (l : List MvEntry). All (λ e. IsTrue (mv_keeps level e)) l) p.whole entries.each) (index_child level child high fits)

lead_changeable : (level : ℕ) (es new : List MvEntry) (key v child : ℕ) (before : List MvEntry) (e : MvEntry) (after : List MvEntry) → Parts level es new key v child before e after → IsChangeable v new
lead_changeable level es new key v child before e after p = changed_changeable before e after v (new_entry e.low v e.value child) new p.can p.made

pub anew_entries : (level : ℕ) (es mid new : List MvEntry) (key v child : ℕ) (second : Option Cut) → AreEntriesOf level es → IsChangeable v es → LeadsAnew es mid key v child → new ≡ with_second v second mid
    → 2 ≤ level → 3 ≤ child → CutsWithin (path_entry es key v) (next_entry es key v) second → AreEntriesOf level new
anew_entries level es mid new key v child None entries can t is high fits within =
    subst (AreEntriesOf level) (sym is) (lead_entries level es mid key v child t.0 t.1 t.2 (parts_of level es mid key v child entries can t) entries high fits)
anew_entries level es mid new key v child (Some s) entries can t is high fits within =
    let p = parts_of level es mid key v child entries can t in
    let free = cut_free level es mid key v child t.0 t.1 t.2 p s.0 (below_cut (path_entry es key v) t.1 s.0 p.path within.1) within.2 in
    subst (AreEntriesOf level) (sym is)
    (put_entries level mid s.0 v 0 s.1 (lead_entries level es mid key v child t.0 t.1 t.2 p entries high fits) (lead_changeable level es mid key v child t.0 t.1 t.2 p) free (index_child level s.1 high within.0))

pub anew_changeable : (level : ℕ) (es mid new : List MvEntry) (key v child : ℕ) (second : Option Cut) → AreEntriesOf level es → IsChangeable v es → LeadsAnew es mid key v child → new ≡ with_second v second mid
    → CutsWithin (path_entry es key v) (next_entry es key v) second → IsChangeable v new
anew_changeable level es mid new key v child None entries can t is within =
    subst (IsChangeable v) (sym is) (lead_changeable level es mid key v child t.0 t.1 t.2 (parts_of level es mid key v child entries can t))
anew_changeable level es mid new key v child (Some s) entries can t is within =
    let p = parts_of level es mid key v child entries can t in
    let free = cut_free level es mid key v child t.0 t.1 t.2 p s.0 (below_cut (path_entry es key v) t.1 s.0 p.path within.1) within.2 in
    subst (IsChangeable v) (sym is) (put_changeable mid s.0 v 0 s.1 (lead_changeable level es mid key v child t.0 t.1 t.2 p) free)

lead_count : (level : ℕ) (es new : List MvEntry) (key v child : ℕ) (before : List MvEntry) (e : MvEntry) (after : List MvEntry) → Parts level es new key v child before e after
    → (l : ℕ) → alive_count new v l ≡ alive_count es v l
lead_count level es new key v child before e after p l =
    changed_count before e after v (new_entry e.low v e.value child) new p.can p.made l ∙ ap (λ (xs : List MvEntry). alive_count xs v l) (sym p.whole)

pub anew_alive : (level : ℕ) (es mid new : List MvEntry) (key v child : ℕ) (second : Option Cut) → AreEntriesOf level es → IsChangeable v es → LeadsAnew es mid key v child → new ≡ with_second v second mid
    → CutsWithin (path_entry es key v) (next_entry es key v) second → (l : ℕ) → alive_count new v l ≡ count_with second l (alive_count es v l)
anew_alive level es mid new key v child None entries can t is within l =
    ap (λ (xs : List MvEntry). alive_count xs v l) is ∙ lead_count level es mid key v child t.0 t.1 t.2 (parts_of level es mid key v child entries can t) l
anew_alive level es mid new key v child (Some s) entries can t is within l =
    let p = parts_of level es mid key v child entries can t in
    let free = cut_free level es mid key v child t.0 t.1 t.2 p s.0 (below_cut (path_entry es key v) t.1 s.0 p.path within.1) within.2 in
    ap (λ (xs : List MvEntry). alive_count xs v l) is ∙ put_count mid s.0 v 0 s.1 free l ∙ ap (λ (n : ℕ). cond (l == s.0) 1 n) (lead_count level es mid key v child t.0 t.1 t.2 p l)

second_lows : (test : ℕ → Bool) (v : ℕ) (second : Option Cut) (es new : List MvEntry) → new ≡ with_second v second es → All (λ e. IsTrue (test e.low)) es → OfCut second (λ cut. IsTrue (test cut)) → All (λ e. IsTrue (test e.low)) new
second_lows test v None es new is all here = subst (All (λ e. IsTrue (test e.low))) (sym is) all
second_lows test v (Some s) es new is all here = subst (All (λ e. IsTrue (test e.low))) (sym is) (put_all (λ e. IsTrue (test e.low)) (new_entry s.0 v 0 s.1) es all here)

second_past : (v : ℕ) (second : Option Cut) (es new : List MvEntry) → new ≡ with_second v second es → (q w : ℕ) → w < v → path_child new q w ≡ path_child es q w
second_past v None es new is q w early = ap (λ (l : List MvEntry). path_child l q w) is
second_past v (Some s) es new is q w early =
    let x : MvEntry = new_entry s.0 v 0 s.1 in
    ap (λ (l : List MvEntry). path_child l q w) is ∙ put_path-dead q w x es (child-dead q w x (alive-early w x early))

some_entry : MvEntry → Option MvEntry → MvEntry
some_entry d None = d
some_entry d (Some e) = e

same_entry : (a b : MvEntry) → Some a ≡ Some b → a ≡ b
unfolding some_entry
same_entry a b h = ap (some_entry a) h

-- the next entry begins above the key
next_above : (key v : ℕ) (n : MvEntry) (es : List MvEntry) → next_entry es key v ≡ Some n → key < n.low
next_above key v n [] next = absurd cc
next_above key v n (e ∷ es) next = elim (cases_Bool (is_beyond key v e)) [
  | inl here ↦
      let found : Some e ≡ Some n = rw here at next in
      let above : key < e.low = ltb-true key e.low (and_parts (nat_lt key e.low) (is_alive v e) here).0 in
      subst (λ (x : MvEntry). key < x.low) (same_entry e n found) above
  | inr away ↦ let there : next_entry es key v ≡ Some n = rw away at next in next_above key v n es there
]

pub anew_lows : (es mid new : List MvEntry) (key v child : ℕ) (second : Option Cut) (test : ℕ → Bool) → LeadsAnew es mid key v child → new ≡ with_second v second mid
    → All (λ e. IsTrue (test e.low)) es → OfCut second (λ cut. IsTrue (test cut)) → All (λ e. IsTrue (test e.low)) new
anew_lows es mid new key v child second test t is all here =
    let P : MvEntry → Type 0 = λ e. IsTrue (test e.low) in
    let mine : All P (t.0 ++ (t.1 ∷ t.2)) = subst (All P) t.3 all in
    let own : P t.1 = All-at P t.0 t.1 t.2 mine in
    let first : All P mid = changed_all P t.0 t.1 t.2 v (new_entry t.1.low v t.1.value child) mid t.6 mine own (λ _. own) in
    second_lows test v second mid new is first here

-- The past keeps its paths.
pub anew_past : (level : ℕ) (es mid new : List MvEntry) (key v child : ℕ) (second : Option Cut) → AreEntriesOf level es → IsChangeable v es → LeadsAnew es mid key v child → new ≡ with_second v second mid
    → (q w : ℕ) → w < v → path_child new q w ≡ path_child es q w
anew_past level es mid new key v child second entries can t is q w early =
    let p = parts_of level es mid key v child entries can t in
    second_past v second mid new is q w early
    ∙ changed_path-early t.0 t.1 t.2 v (new_entry t.1.low v t.1.value child) mid p.can p.made q w early
    ∙ ap (λ (l : List MvEntry). path_child l q w) (sym p.whole)

lead_late : (level : ℕ) (es new : List MvEntry) (key v child : ℕ) (before : List MvEntry) (e : MvEntry) (after : List MvEntry) → Parts level es new key v child before e after
    → (q w : ℕ) → v ≤ w → path_child new q w ≡ or_later (path_child before q w) (or_later (child_reached q w (new_entry e.low v e.value child)) (path_child after q w))
lead_late level es new key v child before e after p q w late = changed_path-late before e after v (new_entry e.low v e.value child) new p.can p.made q w late

-- none after the path's entry reaches a key before the next one
out_after : (level : ℕ) (es new : List MvEntry) (key v child : ℕ) (before : List MvEntry) (e : MvEntry) (after : List MvEntry) → Parts level es new key v child before e after
    → (q w : ℕ) → v ≤ w → EndsAfter (next_entry es key v) q → All (λ f. reaches q w f ≡ false) after
out_after level es new key v child before e after p q w late ends =
    none_later v w q after p.can.last late p.past (beyond_out key v q after p.order.1 p.passed (subst (λ (o : Option MvEntry). EndsAfter o q) p.next ends))

lead_here : (level : ℕ) (es new : List MvEntry) (key v child : ℕ) (before : List MvEntry) (e : MvEntry) (after : List MvEntry) → Parts level es new key v child before e after
    → (q w : ℕ) → v ≤ w → e.low ≤ q → EndsAfter (next_entry es key v) q → path_child new q w ≡ Some child
lead_here level es new key v child before e after p q w late at ends =
    let x : MvEntry = new_entry e.low v e.value child in
    let none = no_path q w after (out_after level es new key v child before e after p q w late ends) in
    let own = child-some q w x (reaches-alive q w x at (alive-open w x late refl)) in
    lead_late level es new key v child before e after p q w late
    ∙ ap (λ (o : Option ℕ). or_later (path_child before q w) (or_later (child_reached q w x) o)) none
    ∙ ap (or_later (path_child before q w)) own

-- what holds of what is above a cut holds after the change too
above_new : (level : ℕ) (es new : List MvEntry) (key v child : ℕ) (before : List MvEntry) (e : MvEntry) (after : List MvEntry) → Parts level es new key v child before e after
    → (cut q w : ℕ) → e.low < cut → All (λ f. reaches q w f ≡ false) after → All (λ f. cut < f.low → reaches q w f ≡ false) new
above_new level es new key v child before e after p cut q w above none =
    let P : MvEntry → Type 0 = λ f. cut < f.low → reaches q w f ≡ false in
    let low : All P before = All-map (λ (f : MvEntry). f.low ≤ e.low) P before (λ f le h. absurd (omega (arith, le, h, above))) p.lows in
    let high : All P after = All-map (λ (f : MvEntry). reaches q w f ≡ false) P after (λ f r _. r) none in
    let own : P e = λ h. absurd (omega (arith, h, above)) in
    changed_all P before e after v (new_entry e.low v e.value child) new p.made (All-append P before (e ∷ after) low (All-cons P e after own high)) (λ h. absurd (omega (arith, h, above))) (λ _ h. absurd (omega (arith, h, above)))

pub anew_led : (level : ℕ) (es mid new : List MvEntry) (key v child : ℕ) (second : Option Cut) → AreEntriesOf level es → IsChangeable v es → LeadsAnew es mid key v child → new ≡ with_second v second mid
    → CutsWithin (path_entry es key v) (next_entry es key v) second → (q w : ℕ) → v ≤ w → BeginsBy (path_entry es key v) q → EndsAfter (next_entry es key v) q → path_child new q w ≡ Some (page_for child second q)
anew_led level es mid new key v child None entries can t is within q w late begins ends =
    let p = parts_of level es mid key v child entries can t in
    ap (λ (l : List MvEntry). path_child l q w) is ∙ lead_here level es mid key v child t.0 t.1 t.2 p q w late (by_key (path_entry es key v) t.1 q p.path begins) ends
anew_led level es mid new key v child (Some s) entries can t is within q w late begins ends =
    let p = parts_of level es mid key v child entries can t in
    let x : MvEntry = new_entry s.0 v 0 s.1 in
    let above = below_cut (path_entry es key v) t.1 s.0 p.path within.1 in
    elim (cases_lt q s.0) [
      | inl below ↦
          let b : nat_le s.0 q ≡ false = lt-leb s.0 q below in
          rw b (ap (λ (l : List MvEntry). path_child l q w) is ∙ put_path-dead q w x mid (child-none q w x (reaches-below q w x below))
          ∙ lead_here level es mid key v child t.0 t.1 t.2 p q w late (by_key (path_entry es key v) t.1 q p.path begins) ends)
      | inr at ↦
          let b : nat_le s.0 q ≡ true = le-leb s.0 q at in
          let out = above_new level es mid key v child t.0 t.1 t.2 p s.0 q w above (out_after level es mid key v child t.0 t.1 t.2 p q w late ends) in
          let order = changed_order t.0 t.1 t.2 v (new_entry t.1.low v t.1.value child) mid p.can p.made in
          rw b (ap (λ (l : List MvEntry). path_child l q w) is ∙ put_path-last q w x mid order out (reaches-alive q w x at (alive-open w x late refl)))
    ]

-- Below the path's entry the paths stay.
lead_below : (level : ℕ) (es new : List MvEntry) (key v child : ℕ) (before : List MvEntry) (e : MvEntry) (after : List MvEntry) → Parts level es new key v child before e after
    → (q w : ℕ) → v ≤ w → q < e.low → path_child new q w ≡ path_child es q w
lead_below level es new key v child before e after p q w late below =
    let x : MvEntry = new_entry e.low v e.value child in
    let own : child_reached q w x ≡ child_reached q w e = child-none q w x (reaches-below q w x below) ∙ sym (child-none q w e (reaches-below q w e below)) in
    lead_late level es new key v child before e after p q w late
    ∙ ap (λ (o : Option ℕ). or_later (path_child before q w) (or_later o (path_child after q w))) own
    ∙ sym (path-append before (e ∷ after) q w) ∙ ap (λ (l : List MvEntry). path_child l q w) (sym p.whole)

-- From the next entry on they stay too.
lead_above : (level : ℕ) (es new : List MvEntry) (key v child : ℕ) (before : List MvEntry) (e : MvEntry) (after : List MvEntry) → Parts level es new key v child before e after
    → (q w : ℕ) (n : MvEntry) → v ≤ w → next_entry es key v ≡ Some n → n.low ≤ q → key < n.low → path_child new q w ≡ path_child es q w
lead_above level es new key v child before e after p q w n late next at above =
    let x : MvEntry = new_entry e.low v e.value child in
    let some = path_some key q w after (next_counts key v w q key n after p.can.last late p.past (sym p.next ∙ next) at above) in
    let pass : (o : Option ℕ) → or_later o (path_child after q w) ≡ Some some.0 = λ o. ap (or_later o) some.1 in
    let new_one : path_child new q w ≡ Some some.0 = lead_late level es new key v child before e after p q w late ∙ ap (or_later (path_child before q w)) (pass (child_reached q w x)) in
    let old_one : path_child es q w ≡ Some some.0 = ap (λ (l : List MvEntry). path_child l q w) p.whole ∙ path-append before (e ∷ after) q w ∙ ap (or_later (path_child before q w)) (pass (child_reached q w e)) in
    new_one ∙ sym old_one

lead_sum : (level : ℕ) (es new : List MvEntry) (key v child : ℕ) (before : List MvEntry) (e : MvEntry) (after : List MvEntry) → Parts level es new key v child before e after
    → (cut q w : ℕ) → e.low < cut → sum_by (above_one cut q w) new ≡ sum_by (above_one cut q w) es
lead_sum level es new key v child before e after p cut q w above =
    let f : MvEntry → ℕ = above_one cut q w in
    let x : MvEntry = new_entry e.low v e.value child in
    let a : f e ≡ 0 = none_from cut q w e (omega (arith, above)) in
    let b : f x ≡ 0 = none_from cut q w x (omega (arith, above)) in
    let d : f (closed e v) ≡ 0 = none_from cut q w (closed e v) (omega (arith, above)) in
    let whole : sum_by f es ≡ sum_by f (before ++ (e ∷ after)) = ap (sum_by f) p.whole in
    elim (changed_sum f before e after v x new p.made) [
      | inl r ↦ omega (arith, r.1, a, b, whole)
      | inr r ↦ omega (arith, r.1, a, b, d, whole)
    ]

others_above : (level : ℕ) (es mid new : List MvEntry) (key v child : ℕ) (second : Option Cut) → AreEntriesOf level es → IsChangeable v es → LeadsAnew es mid key v child → new ≡ with_second v second mid
    → CutsWithin (path_entry es key v) (next_entry es key v) second → (q w : ℕ) (n : MvEntry) → v ≤ w → next_entry es key v ≡ Some n → n.low ≤ q → key < n.low → path_child new q w ≡ path_child es q w
others_above level es mid new key v child None entries can t is within q w n late next at above =
    ap (λ (l : List MvEntry). path_child l q w) is ∙ lead_above level es mid key v child t.0 t.1 t.2 (parts_of level es mid key v child entries can t) q w n late next at above
others_above level es mid new key v child (Some s) entries can t is within q w n late next at above =
    let p = parts_of level es mid key v child entries can t in
    let x : MvEntry = new_entry s.0 v 0 s.1 in
    let over = below_cut (path_entry es key v) t.1 s.0 p.path within.1 in
    let under : s.0 < n.low = subst (λ (o : Option MvEntry). EndsAfter o s.0) next within.2 in
    let some = next_counts key v w q s.0 n es can.last late can.past next at under in
    let sum = lead_sum level es mid key v child t.0 t.1 t.2 p s.0 q w over in
    ap (λ (l : List MvEntry). path_child l q w) is ∙ put_path-under q w x mid (omega (arith, sum, some)) ∙ lead_above level es mid key v child t.0 t.1 t.2 p q w n late next at above

others_below : (level : ℕ) (es mid new : List MvEntry) (key v child : ℕ) (second : Option Cut) → AreEntriesOf level es → IsChangeable v es → (t : LeadsAnew es mid key v child) → new ≡ with_second v second mid
    → CutsWithin (path_entry es key v) (next_entry es key v) second → (q w : ℕ) → v ≤ w → q < t.1.low → path_child new q w ≡ path_child es q w
others_below level es mid new key v child None entries can t is within q w late below =
    ap (λ (l : List MvEntry). path_child l q w) is ∙ lead_below level es mid key v child t.0 t.1 t.2 (parts_of level es mid key v child entries can t) q w late below
others_below level es mid new key v child (Some s) entries can t is within q w late below =
    let p = parts_of level es mid key v child entries can t in
    let x : MvEntry = new_entry s.0 v 0 s.1 in
    let over = below_cut (path_entry es key v) t.1 s.0 p.path within.1 in
    ap (λ (l : List MvEntry). path_child l q w) is ∙ put_path-dead q w x mid (child-none q w x (reaches-below q w x (omega (arith, below, over)))) ∙ lead_below level es mid key v child t.0 t.1 t.2 p q w late below

others_from : (level : ℕ) (es mid new : List MvEntry) (key v child : ℕ) (second : Option Cut) → AreEntriesOf level es → IsChangeable v es → LeadsAnew es mid key v child → new ≡ with_second v second mid
    → CutsWithin (path_entry es key v) (next_entry es key v) second → (q w : ℕ) → v ≤ w → (next : Option MvEntry) → next_entry es key v ≡ next → (EndsAfter next q → ⊥) → path_child new q w ≡ path_child es q w
others_from level es mid new key v child second entries can t is within q w late None next stop = absurd (stop tt)
others_from level es mid new key v child second entries can t is within q w late (Some n) next stop =
    elim (cases_lt q n.low) [
      | inl less ↦ absurd (stop less)
      | inr at ↦ others_above level es mid new key v child second entries can t is within q w n late next at (next_above key v n es next)
    ]

pub anew_others : (level : ℕ) (es mid new : List MvEntry) (key v child : ℕ) (second : Option Cut) → AreEntriesOf level es → IsChangeable v es → LeadsAnew es mid key v child → new ≡ with_second v second mid
    → CutsWithin (path_entry es key v) (next_entry es key v) second → (q w : ℕ) → v ≤ w → (BeginsBy (path_entry es key v) q → EndsAfter (next_entry es key v) q → ⊥) → path_child new q w ≡ path_child es q w
anew_others level es mid new key v child second entries can t is within q w late stop =
    let p = parts_of level es mid key v child entries can t in
    elim (cases_lt q t.1.low) [
      | inl below ↦ others_below level es mid new key v child second entries can t is within q w late below
      | inr at ↦
          let begins : BeginsBy (path_entry es key v) q = subst (λ (o : Option MvEntry). BeginsBy o q) (sym p.path) at in
          others_from level es mid new key v child second entries can t is within q w late (next_entry es key v) refl (stop begins)
    ]

-- Which lows are alive once a path leads anew.

lead_lows : (level : ℕ) (es new : List MvEntry) (key v child : ℕ) (before : List MvEntry) (e : MvEntry) (after : List MvEntry) → Parts level es new key v child before e after
    → (w : ℕ) → alive_lows new w ≡ alive_lows es w
lead_lows level es new key v child before e after p w =
    changed_lows before e after v (new_entry e.low v e.value child) new p.can p.made w ∙ ap (λ (l : List MvEntry). alive_lows l w) (sym p.whole)

pub lows_anew-early : (level : ℕ) (es mid new : List MvEntry) (key v child : ℕ) (second : Option Cut) → AreEntriesOf level es → IsChangeable v es → LeadsAnew es mid key v child → new ≡ with_second v second mid
    → (w : ℕ) → w < v → alive_lows new w ≡ alive_lows es w
lows_anew-early level es mid new key v child None entries can t is w early =
    ap (λ (l : List MvEntry). alive_lows l w) is ∙ lead_lows level es mid key v child t.0 t.1 t.2 (parts_of level es mid key v child entries can t) w
lows_anew-early level es mid new key v child (Some s) entries can t is w early =
    let x : MvEntry = new_entry s.0 v 0 s.1 in
    ap (λ (l : List MvEntry). alive_lows l w) is ∙ put_lows-dead w x mid (alive-early w x early)
    ∙ lead_lows level es mid key v child t.0 t.1 t.2 (parts_of level es mid key v child entries can t) w

pub lows_anew-late : (level : ℕ) (es mid new : List MvEntry) (key v child : ℕ) (second : Option Cut) → AreEntriesOf level es → IsChangeable v es → LeadsAnew es mid key v child → new ≡ with_second v second mid
    → CutsWithin (path_entry es key v) (next_entry es key v) second → (w : ℕ) → v ≤ w → alive_lows new w ≡ with_cut second (alive_lows es w)
lows_anew-late level es mid new key v child None entries can t is within w late =
    ap (λ (l : List MvEntry). alive_lows l w) is ∙ lead_lows level es mid key v child t.0 t.1 t.2 (parts_of level es mid key v child entries can t) w
lows_anew-late level es mid new key v child (Some s) entries can t is within w late =
    let p = parts_of level es mid key v child entries can t in
    let x : MvEntry = new_entry s.0 v 0 s.1 in
    let free = cut_free level es mid key v child t.0 t.1 t.2 p s.0 (below_cut (path_entry es key v) t.1 s.0 p.path within.1) within.2 in
    let may = lead_changeable level es mid key v child t.0 t.1 t.2 p in
    let none = none_alive w s.0 mid (later_count v w s.0 mid can.last late may.past ∙ free) in
    let order = changed_order t.0 t.1 t.2 v (new_entry t.1.low v t.1.value child) mid p.can p.made in
    ap (λ (l : List MvEntry). alive_lows l w) is ∙ put_lows w x mid order (alive-open w x late refl) none
    ∙ ap (with_cut (Some s)) (lead_lows level es mid key v child t.0 t.1 t.2 p w)
