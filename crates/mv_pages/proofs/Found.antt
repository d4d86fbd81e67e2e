-- What a search in the entries finds.
use Rattle.std.proofs.Common.{◌≡◌, ℕ, zero, suc, ◌+◌, ◌<◌, inl, inr, Bool, true, false, nat_lt, List, [], ◌∷◌, ◌++◌, length, get_or, take, Option, Some, None, refl, sym, ap, ◌∙◌, subst, arith}
use Rattle.std.specs.Prelude.{position, insert, slice_set}
use Rattle.std.specs.List.{All, position_from}
use Rattle.std.proofs.lemmas.Bool.{cases_Bool}
use Rattle.std.proofs.lemmas.Iterator.Adapters.{position_from-zero}
use Rattle.std.proofs.lemmas.List.Elements.{All-cons, All-nil}
use Rattle.page_layout.specs.declared.mv_node.MvEntry.{MvEntry}
use Rattle.std.proofs.Common.{append_assoc}
use Rattle.std.proofs.lemmas.List.{length-take-le}
use Rattle.std.proofs.lemmas.List.Elements.{All-append}
use Rattle.mv_pages.specs.Alive.{reaches}
use Rattle.mv_pages.specs.Edits.{put_in, IsPathIndex}

some_number : Option ℕ → ℕ
some_number None = 0
some_number (Some n) = n

some_inj : (a b : ℕ) → Some a ≡ Some b → a ≡ b
unfolding some_number
some_inj a b h = ap some_number h

found_from : (p : MvEntry → Bool) (xs : List MvEntry) (n i : ℕ) → position_from p n xs ≡ Some i
    → (before : List MvEntry) × (e : MvEntry) × (after : List MvEntry) × (xs ≡ before ++ (e ∷ after)) × (n + length before ≡ i) × (p e ≡ true) × All (λ f. p f ≡ false) before
found_from p [] n i h = absurd cc
found_from p (x ∷ xs) n i h = elim (cases_Bool (p x)) [
  | inl here ↦
      let found_here : Some n ≡ Some i = rw here at h in
      let same = some_inj n i found_here in
      ([], x, xs, refl, omega (arith, same), here, All-nil (λ (f : MvEntry). p f ≡ false))
  | inr away ↦
      let there : position_from p (n + 1) xs ≡ Some i = rw away at h in
      let r = found_from p xs (n + 1) i there in
      (x ∷ r.0, r.1, r.2, ap (λ (l : List MvEntry). x ∷ l) r.3, omega (arith, r.4), r.5, All-cons (λ (f : MvEntry). p f ≡ false) x r.0 away r.6)
]

-- Where a search finds an index, the entry there passes the test, and none before it does.
pub found : (p : MvEntry → Bool) (xs : List MvEntry) (i : ℕ) → position p xs ≡ Some i
    → (before : List MvEntry) × (e : MvEntry) × (after : List MvEntry) × (xs ≡ before ++ (e ∷ after)) × (length before ≡ i) × (p e ≡ true) × All (λ f. p f ≡ false) before
found p xs i h =
    let r = found_from p xs 0 i (sym (position_from-zero p xs) ∙ h) in
    (r.0, r.1, r.2, r.3, omega (arith, r.4), r.5, r.6)

none_from : (p : MvEntry → Bool) (xs : List MvEntry) (n : ℕ) → position_from p n xs ≡ None → All (λ f. p f ≡ false) xs
none_from p [] n h = All-nil (λ (f : MvEntry). p f ≡ false)
none_from p (x ∷ xs) n h = elim (cases_Bool (p x)) [
  | inl here ↦ let found_here : Some n ≡ None = rw here at h in absurd cc
  | inr away ↦ let there : position_from p (n + 1) xs ≡ None = rw away at h in All-cons (λ (f : MvEntry). p f ≡ false) x xs away (none_from p xs (n + 1) there)
]

-- Where a search finds no index, no entry passes the test.
pub found_none : (p : MvEntry → Bool) (xs : List MvEntry) → position p xs ≡ None → All (λ f. p f ≡ false) xs
found_none p xs h = none_from p xs 0 (sym (position_from-zero p xs) ∙ h)

insert_from : (entry : MvEntry) (before : List MvEntry) (e : MvEntry) (after : List MvEntry) → nat_lt entry.low e.low ≡ true → All (λ f. nat_lt entry.low f.low ≡ false) before
    → insert (before ++ (e ∷ after)) (length before) entry ≡ put_in entry (before ++ (e ∷ after))
insert_from entry [] e after here none = rw here refl
insert_from entry (b ∷ before) e after here none =
    let no : nat_lt entry.low b.low ≡ false = none 0 b (omega arith) in
    let rest = insert_from entry before e after here (λ k d h. none (suc k) d (omega (arith, h))) in
    rw no (ap (λ (l : List MvEntry). b ∷ l) rest)

insert_last : (entry : MvEntry) (xs : List MvEntry) → All (λ f. nat_lt entry.low f.low ≡ false) xs → insert xs (length xs) entry ≡ put_in entry xs
insert_last entry [] none = refl
insert_last entry (x ∷ xs) none =
    let no : nat_lt entry.low x.low ≡ false = none 0 x (omega arith) in
    let rest = insert_last entry xs (λ k d h. none (suc k) d (omega (arith, h))) in
    rw no (ap (λ (l : List MvEntry). x ∷ l) rest)

-- An entry inserted before the first of a greater low is put in.
pub insert_found : (xs : List MvEntry) (low i : ℕ) → position (λ e. nat_lt low e.low) xs ≡ Some i → (entry : MvEntry) → entry.low ≡ low → insert xs i entry ≡ put_in entry xs
insert_found xs low i h entry same =
    let r = found (λ e. nat_lt low e.low) xs i h in
    let here : nat_lt entry.low r.1.low ≡ true = subst (λ (l : ℕ). nat_lt l r.1.low ≡ true) (sym same) r.5 in
    let none : All (λ f. nat_lt entry.low f.low ≡ false) r.0 = subst (λ (l : ℕ). All (λ f. nat_lt l f.low ≡ false) r.0) (sym same) r.6 in
    ap (λ (l : List MvEntry). insert l i entry) r.3 ∙ ap (λ (j : ℕ). insert (r.0 ++ (r.1 ∷ r.2)) j entry) (sym r.4)
    ∙ insert_from entry r.0 r.1 r.2 here none ∙ ap (put_in entry) (sym r.3)

pub insert_none : (xs : List MvEntry) (low : ℕ) → position (λ e. nat_lt low e.low) xs ≡ None → (entry : MvEntry) → entry.low ≡ low → insert xs (length xs) entry ≡ put_in entry xs
insert_none xs low h entry same =
    let none = found_none (λ e. nat_lt low e.low) xs h in
    insert_last entry xs (subst (λ (l : ℕ). All (λ f. nat_lt l f.low ≡ false) xs) (sym same) none)

-- reading and writing at the end of the first part
pub read_there : (before : List MvEntry) (e : MvEntry) (after : List MvEntry) (d : MvEntry) → get_or (before ++ (e ∷ after)) (length before) d ≡ e
read_there [] e after d = refl
read_there (b ∷ before) e after d = read_there before e after d

pub set_there : (before : List MvEntry) (e x : MvEntry) (after : List MvEntry) → slice_set (before ++ (e ∷ after)) (length before) x ≡ before ++ (x ∷ after)
set_there [] e x after = refl
set_there (b ∷ before) e x after = ap (λ (l : List MvEntry). b ∷ l) (set_there before e x after)

pub past_end : (before : List MvEntry) (e : MvEntry) (after : List MvEntry) → length before < length (before ++ (e ∷ after))
past_end [] e after = omega arith
past_end (b ∷ before) e after = omega (arith, past_end before e after)

pub take_more : (es : List MvEntry) (i : ℕ) (d : MvEntry) → i < length es → take (i + 1) es ≡ take i es ++ (get_or es i d ∷ [])
take_more [] i d h = absurd (omega (arith, h))
take_more (e ∷ es) zero d h = refl
take_more (e ∷ es) (suc i) d h =
    let place : suc i + 1 ≡ suc (i + 1) = omega arith in
    ap (λ (j : ℕ). take j (e ∷ es)) place ∙ ap (λ (l : List MvEntry). e ∷ l) (take_more es i d (omega (arith, h)))

-- one more entry that reaches is the last
pub index_here : (key v : ℕ) (es : List MvEntry) (i : ℕ) (d : MvEntry) (last : Option ℕ) → i < length es → reaches key v (get_or es i d) ≡ true → last ≡ Some i → IsPathIndex (take (i + 1) es) key v last
index_here key v es i d last h reached is =
    let long : length (take i es) ≡ i = length-take-le i es (omega (arith, h)) in
    let whole : take (i + 1) es ≡ take i es ++ (get_or es i d ∷ []) = take_more es i d h in
    let core : IsPathIndex (take (i + 1) es) key v (Some i) = (take i es, get_or es i d, [], whole, long, reached, All-nil (λ (f : MvEntry). reaches key v f ≡ false)) in
    subst (IsPathIndex (take (i + 1) es) key v) (sym is) core

past_one : (key v : ℕ) (xs : List MvEntry) (x : MvEntry) (was : Option ℕ) → IsPathIndex xs key v was → reaches key v x ≡ false → IsPathIndex (xs ++ (x ∷ [])) key v was
past_one key v xs x None all passed = All-append (λ (f : MvEntry). reaches key v f ≡ false) xs (x ∷ []) all (All-cons (λ (f : MvEntry). reaches key v f ≡ false) x [] passed (All-nil (λ (f : MvEntry). reaches key v f ≡ false)))
past_one key v xs x (Some i) t passed =
    let P : MvEntry → Type 0 = λ f. reaches key v f ≡ false in
    let whole : xs ++ (x ∷ []) ≡ t.0 ++ (t.1 ∷ (t.2 ++ (x ∷ []))) = ap (λ (l : List MvEntry). l ++ (x ∷ [])) t.3 ∙ append_assoc t.0 (t.1 ∷ t.2) (x ∷ []) in
    (t.0, t.1, t.2 ++ (x ∷ []), whole, t.4, t.5, All-append P t.2 (x ∷ []) t.6 (All-cons P x [] passed (All-nil P)))

-- one more entry that does not reach leaves the last
pub index_passed : (key v : ℕ) (es : List MvEntry) (i : ℕ) (d : MvEntry) (was last : Option ℕ) → i < length es → IsPathIndex (take i es) key v was → reaches key v (get_or es i d) ≡ false → last ≡ was
    → IsPathIndex (take (i + 1) es) key v last
index_passed key v es i d was last h before passed is =
    let whole : take (i + 1) es ≡ take i es ++ (get_or es i d ∷ []) = take_more es i d h in
    subst (IsPathIndex (take (i + 1) es) key v) (sym is) (subst (λ (l : List MvEntry). IsPathIndex l key v was) (sym whole) (past_one key v (take i es) (get_or es i d) was before passed))
