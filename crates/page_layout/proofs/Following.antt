-- Entries in place: what is left to test after the first ones.
use Rattle.std.proofs.Common.{◌≡◌, ℕ, zero, suc, ◌+◌, ◌-◌, ◌*◌, ◌<◌, ◌≤◌, List, [], ◌∷◌, length, drop, refl, ap, ◌∙◌, subst, arith, ◌↔◌}
use Rattle.page_layout.proofs.Rows.{next_room}
use Rattle.std.specs.List.{AllAdjacentBelow}
use Rattle.std.proofs.lemmas.List.Elements.{All-cons, All-nil}
use Rattle.page_layout.specs.Entries.{entries_at, AreInOrder}

one_on : (k : ℕ) → suc k + 1 ≡ suc (k + 1)
one_on k = omega arith

pub first_room : (size n count before after : ℕ) → zero < count → n ≡ size → after + n ≡ before → count * size ≤ before → (count - 1) * size ≤ after
first_room size n count before after lt is_size is_after h =
    let whole : count ≡ count - 0 = omega arith in
    next_room size n count 0 before after lt is_size is_after (subst (λ (m : ℕ). m * size ≤ before) whole h)

module _ {X : Type 0} (keeps : X → Type 0) (precedes : X → X → Type 0) where
  -- The entries keep their rules, and the first follows this one, each other the one before it.
  abbrev pub Follow : X → List X → Type 0
  Follow last [] = Unit {0}
  Follow last (x ∷ xs) = precedes last x × keeps x × Follow x xs

  pub follow-from : (x : X) (xs : List X) → AreInOrder keeps precedes (x ∷ xs) → Follow x xs
  follow-from x [] r = tt
  follow-from x (y ∷ ys) r = (
    r.order 0 y (omega arith),
    r.each 1 y (omega arith),
    follow-from y ys (record { each = λ k d h. r.each (suc k) d (omega arith); order = λ k d h. rw (one_on k) at (r.order (suc k) d (omega arith)) }),
  )

  first_order : (x y : X) (ys : List X) → precedes x y → AllAdjacentBelow precedes (y ∷ ys) (length (y ∷ ys)) → AllAdjacentBelow precedes (x ∷ y ∷ ys) (length (x ∷ y ∷ ys))
  first_order x y ys first order zero d h = first
  first_order x y ys first order (suc k) d h = rw (one_on k) (order k d (omega arith))

  pub in_order : (x : X) (xs : List X) → keeps x → Follow x xs → AreInOrder keeps precedes (x ∷ xs)
  in_order x [] kept fs = record { each = All-cons keeps x [] kept (All-nil keeps); order = λ k d h. absurd (omega arith) }
  in_order x (y ∷ ys) kept fs =
      let rest = in_order y ys fs.1 fs.2 in
      record { each = All-cons keeps x (y ∷ ys) kept rest.each; order = first_order x y ys fs.0 rest.order }

  module _ (f : List ℕ → X) (size : ℕ) (count : ℕ) (bytes : List ℕ) where
    abbrev pub Stand : Type 0
    Stand = AreInOrder keeps precedes (entries_at f size count bytes)

    abbrev pub Left : X → ℕ → List ℕ → Type 0
    Left last i rest = Stand ↔ Follow last (entries_at f size (count - i) rest)

    one_left : (i : ℕ) (rest : List ℕ) → i < count → entries_at f size (count - i) rest ≡ f rest ∷ entries_at f size (count - (i + 1)) (drop size rest)
    unfolding entries_at
    one_left i rest lt = let k : count - i ≡ suc (count - (i + 1)) = omega arith in ap (λ (n : ℕ). entries_at f size n rest) k

    all_left : zero < count → entries_at f size count bytes ≡ f bytes ∷ entries_at f size (count - 1) (drop size bytes)
    all_left some = let whole : count ≡ count - 0 = omega arith in ap (λ (n : ℕ). entries_at f size n bytes) whole ∙ one_left 0 bytes some

    pub none_stand : count ≡ 0 → Stand
    unfolding entries_at
    none_stand none = rw none (record { each = All-nil keeps; order = λ k d h. absurd (omega arith) })

    pub first_kept : (x : X) → zero < count → x ≡ f bytes → Stand → keeps x
    first_kept x some is_x s = rw is_x ((rw (all_left some) at s).each 0 x (omega arith))

    pub left_first : (x : X) (n : ℕ) (rest : List ℕ) → zero < count → x ≡ f bytes → n ≡ size → rest ≡ drop n bytes → keeps x → Left x 1 rest
    left_first x n rest some is_x is_n is_rest kept =
        let same : entries_at f size count bytes ≡ x ∷ entries_at f size (count - 1) rest = all_left some ∙ rw (is_rest, is_n, is_x) refl in
        (λ s. follow-from x _ (rw same at s), λ fs. rw same (in_order x _ kept fs))

    -- what the next entry has to be
    pub next_follows : (last next : X) (i : ℕ) (rest : List ℕ) → i < count → next ≡ f rest → Left last i rest → Stand
        → precedes last next × keeps next × Follow next (entries_at f size (count - (i + 1)) (drop size rest))
    next_follows last next i rest lt is_next left s = rw is_next (rw (one_left i rest lt) at (left.0 s))

    pub left_next : (last next : X) (i n : ℕ) (rest after : List ℕ) → i < count → next ≡ f rest → n ≡ size → after ≡ drop n rest → precedes last next → keeps next
        → Left last i rest → Left next (i + 1) after
    left_next last next i n rest after lt is_next is_n is_after first kept left =
        let same : entries_at f size (count - (i + 1)) after ≡ entries_at f size (count - (i + 1)) (drop size rest) = rw (is_after, is_n) refl in
        let whole : entries_at f size (count - i) rest ≡ next ∷ entries_at f size (count - (i + 1)) after = one_left i rest lt ∙ rw (is_next, same) refl in
        (λ s. rw same (next_follows last next i rest lt is_next left s).2, λ fs. left.1 (rw whole (first, kept, fs)))

    pub left_none : (last : X) (i : ℕ) (rest : List ℕ) → count ≤ i → Left last i rest → Stand
    unfolding entries_at
    left_none last i rest le left = let k : count - i ≡ 0 = omega arith in left.1 (rw k tt)
