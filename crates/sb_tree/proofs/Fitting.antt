-- Entries within a place, and that an addition keeps them there.
use Rattle.sb_tree.proofs.Common.{◌≡◌, ◌≢◌, ℕ, suc, ◌+◌, ◌^◌, ◌<◌, ◌≤◌, inl, inr, IsTrue, List, [], ◌∷◌, ◌++◌, length, get_or, take, drop, Option, Some, None, refl, sym, ap, subst, arith, append_assoc, length-append, drop-cons, lit<, rules, All, take-append-drop, take_more, All-append, All-cons, All-nil, child_fits, IsSbEntryTyped, SbNode, SbEntry, Place, Second, FitsPlace, raised_first, leaf_entry, TakesIn, second_entry, beside, SecondFits, first_low, IsStorable}
use Rattle.sb_tree.proofs.Paths.{All-head, first_low-at}
use Rattle.sb_tree.proofs.Order.{Ascends, All-left, All-right}
use Rattle.sb_tree.proofs.EditLemmas.{ascending_at}
use Rattle.sb_tree.proofs.Proper.{Proper, proper, in_order, proper_left, proper_right, proper_join, proper_raised, All-raised, length-raised}

-- the entries of a node of the level in a place
pub record Fitting (level : ℕ) (es : List SbEntry) (low high : ℕ) : Type 0 where
  pub proper : Proper level es
  pub from : All (λ e. low ≤ e.low) es
  pub below : All (λ e. e.low < high) es

pub fitting : (level : ℕ) (place : Place) (node : SbNode) (bytes : List ℕ) → FitsPlace level place node bytes → Fitting level node.entries.items place.low place.high
fitting level place node bytes f =
    let p = proper node.level node.entries.items f.fits.rules.entries f.fits.typed in
    record { proper = rw f.fits.at_level at p; from = f.admitted.from; below = f.admitted.below }

pub ascends_before : (xs : List SbEntry) (y : SbEntry) (ys : List SbEntry) → Ascends (xs ++ (y ∷ ys)) → All (λ e. e.low < y.low) xs
ascends_before [] y ys a = All-nil _
ascends_before (x ∷ xs) y ys a =
    All-cons (λ (e : SbEntry). e.low < y.low) x xs (All-head (λ (f : SbEntry). x.low < f.low) y ys (All-right (λ (f : SbEntry). x.low < f.low) xs (y ∷ ys) a.0)) (ascends_before xs y ys a.1)

pub above_all : (ys : List SbEntry) (low high : ℕ) → Ascends ys → low < first_low ys high → All (λ e. low < e.low) ys
above_all [] low high a first = All-nil _
above_all (y ∷ ys) low high a first = grind arith

from_first : (y : SbEntry) (ys : List SbEntry) → Ascends (y ∷ ys) → All (λ e. y.low ≤ e.low) (y ∷ ys)
from_first y ys a = grind arith

pub fitting_raise : (level : ℕ) (xs ys : List SbEntry) (low high x : ℕ) → Fitting level (xs ++ ys) low high → Fitting level (xs ++ raised_first ys x) low high
fitting_raise level xs [] low high x f = f
fitting_raise level xs (y ∷ ys) low high x f =
    let right = proper_right level xs (y ∷ ys) f.proper in
    let raised = proper_raised level (y ∷ ys) x right in
    record {
      proper = proper_join level xs (raised_first (y ∷ ys) x) y.low (proper_left level xs (y ∷ ys) f.proper) raised (ascends_before xs y ys f.proper.ascends)
          (All-raised (λ e. y.low ≤ e.low) (y ∷ ys) x (λ e h. h) (from_first y ys right.ascends));
      from = search (rules, All-append, All-left, All-raised, All-right);
      below = search (rules, All-append, All-left, All-raised, All-right);
    }

pub fitting_insert : (level : ℕ) (xs ys : List SbEntry) (e : SbEntry) (low high : ℕ) → Fitting level (xs ++ ys) low high
    → IsTrue (child_fits level e.child) → IsSbEntryTyped e → All (λ f. f.low < e.low) xs → All (λ f. e.low < f.low) ys → low ≤ e.low → e.low < high
    → Fitting level (xs ++ (e ∷ ys)) low high
fitting_insert level xs ys e low high f child typed before after from below =
    let right = proper_right level xs ys f.proper in
    let more : Proper level (e ∷ ys) = search rules in
    record {
      proper = proper_join level xs (e ∷ ys) e.low (proper_left level xs ys f.proper) more before (from_first e ys more.ascends);
      from = search (rules, All-append, All-left, All-cons, All-right);
      below = search (rules, All-append, All-left, All-cons, All-right);
    }

pub fitting_leaf : (es new : List SbEntry) (low high v x : ℕ) → Fitting 1 es low high → TakesIn es new v x → low ≤ v → v < high → v < 2 ^ 32 → x < 2 ^ 128 → Fitting 1 new low high
fitting_leaf es new low high v x f (inl t) from below fv fx =
    let old = rw t.3 at f in
    rw t.5 (fitting_raise 1 t.0 (t.1 ∷ t.2) low high x old)
fitting_leaf es new low high v x f (inr t) from below fv fx =
    let old = rw t.2 at f in
    rw t.5 (fitting_insert 1 t.0 t.1 (leaf_entry v x) low high old refl (fv, fx, lit< tt) t.3 t.4 from below)

pub beside_path : (es : List SbEntry) (k x : ℕ) (s : Option Second) (d : SbEntry) → suc k ≤ length es
    → beside es (suc k) x s ≡ take k es ++ ((get_or es k d ∷ second_entry s) ++ raised_first (drop (suc k) es) x)
beside_path es k x s d h = grind (arith, take_more, append_assoc)

before_second : (es : List SbEntry) (k low : ℕ) (d : SbEntry) → Ascends es → k < length es → (get_or es k d).low < low → All (λ e. e.low < low) (take k es ++ (get_or es k d ∷ []))
before_second es k low d a h less =
    let whole : es ≡ take k es ++ (get_or es k d ∷ drop (suc k) es) = search (rules, take-append-drop, drop-cons) in
    let first = ascends_before (take k es) (get_or es k d) (drop (suc k) es) (rw whole at a) in
    All-append (λ e. e.low < low) (take k es) (get_or es k d ∷ []) (λ j e g. omega (arith, less, first j e g)) (All-cons (λ e. e.low < low) (get_or es k d) [] less (All-nil (λ e. e.low < low)))

below_high : (ys : List SbEntry) (low high : ℕ) → All (λ e. e.low < high) ys → low < first_low ys high → low < high
below_high [] low high all less = less
below_high (y ∷ ys) low high all less = omega (arith, less, All-head (λ e. e.low < high) y ys all)

pub child_of_index : (level child : ℕ) → level ≢ 1 → 3 ≤ child → IsTrue (child_fits level child)
child_of_index level child index three = grind arith

pub fitting_beside : (level : ℕ) (es : List SbEntry) (k low high x : ℕ) (s : Option Second) (d : SbEntry) → level ≢ 1 → Fitting level es low high → suc k ≤ length es
    → SecondFits (get_or es k d).low (first_low (drop (suc k) es) high) s → Fitting level (beside es (suc k) x s) low high
fitting_beside level es k low high x None d index f h s = search (rules, take-append-drop, fitting_raise)
fitting_beside level es k low high x (Some s) d index f h fits =
    let old = subst (λ (xs : List SbEntry). Fitting level xs low high) (sym (take-append-drop (suc k) es)) f in
    let raised = fitting_raise level (take (suc k) es) (drop (suc k) es) low high x old in
    let more : take (suc k) es ≡ take k es ++ (get_or es k d ∷ []) = search (rules, take_more) in
    let before = subst (λ (xs : List SbEntry). All (λ (e : SbEntry). e.low < s.low) xs) (sym more) (before_second es k s.low d f.proper.ascends h fits.1) in
    let right = (proper_right level (take (suc k) es) (drop (suc k) es) old.proper).ascends in
    let after = All-raised (λ e. s.low < e.low) (drop (suc k) es) x (λ e g. g) (above_all (drop (suc k) es) s.low high right fits.2) in
    let at_from : low ≤ (get_or es k d).low = f.from k d h in
    let high_above : s.low < high = search (rules, below_high, All-right) in
    fitting_insert level (take (suc k) es) (raised_first (drop (suc k) es) x) (record { low = s.low; value = 0; child = s.page }) low high raised
    (child_of_index level s.page index fits.0) (fits.3, lit< tt, fits.4) before after (omega (arith, at_from, fits.1)) high_above

-- the number of entries after an addition
pub length-beside : (es : List SbEntry) (k x : ℕ) (s : Option Second) → length (beside es k x s) ≡ length es + length (second_entry s)
length-beside es k x s =
    let a = length-append (take k es) (second_entry s ++ raised_first (drop k es) x) in
    let b = length-append (second_entry s) (raised_first (drop k es) x) in
    let c = length-raised (drop k es) x in
    let d = length-append (take k es) (drop k es) in
    let e = ap length (take-append-drop k es) in
    omega (arith, a, b, c, d, e)

pub length-takes_in : (es new : List SbEntry) (v x : ℕ) → TakesIn es new v x → (length es ≤ length new) × (length new ≤ length es + 1)
length-takes_in es new v x (inl t) = grind (arith, length-append)
length-takes_in es new v x (inr t) = grind (arith, length-append)

-- A node in memory whose entries fit can be stored.
pub storable : (node : SbNode) (low high : ℕ) → 1 ≤ node.level → node.level ≤ 16 → Fitting node.level node.entries.items low high
    → 1 ≤ length node.entries.items → length node.entries.items ≤ 65 → IsStorable node
storable node low high l h f some few = search (rules, in_order)

-- where the second half begins
pub second_within : (level : ℕ) (es : List SbEntry) (low high : ℕ) → Fitting level es low high → length es ≡ 65
    → (low < first_low (drop 32 es) 0) × (first_low (drop 32 es) 0 < high) × (first_low (drop 32 es) 0 < 2 ^ 32)
second_within level es low high f long =
    let d : SbEntry = record { low = 0; value = 0; child = 0 } in
    let at = first_low-at es 32 0 d (omega (arith, long)) in
    let above = ascending_at es 0 32 d f.proper.ascends (omega arith) (omega (arith, long)) in
    let first = f.from 0 d (omega (arith, long)) in
    let last = f.below 32 d (omega (arith, long)) in
    let typed = (f.proper.typed 32 d (omega (arith, long))).0 in
    (omega (arith, at, above, first), omega (arith, at, last), omega (arith, at, typed))
