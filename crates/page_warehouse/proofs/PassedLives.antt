-- The lives that a walk has passed.
use Rattle.std.proofs.Common.{◌≡◌, ℕ, suc, ◌+◌, ◌-◌, ◌<◌, ◌≤◌, nat_le, true, false, not, List, [], ◌∷◌, ◌++◌, length, get_or, take, slice_get, Option, Some, None, refl, sym, ◌∙◌, ap, subst, arith, inl, inr, append_assoc}
use Rattle.std.proofs.lemmas.Bool.{cases_Bool, leb-true, le-leb, lt-leb}
use Rattle.std.proofs.lemmas.List.{append-nil, take_all, take_more}
use Rattle.std.proofs.lemmas.List.Concat.{flat_map-append}
use Rattle.std.proofs.lemmas.List.Elements.{All-head}
use Rattle.std.proofs.lemmas.Option.{get_or_from_slice_get, none-some, slice_get-get_or, slice_get_within}
use Rattle.std.specs.List.{All, filter}
use Rattle.bw_types.specs.declared.dated.Dated.{Dated}
use Rattle.object_table.specs.Keys.{key}
use Rattle.object_table.specs.Laws.{Ascend}
use Rattle.object_table.specs.Lives.{AreNext, lives_from}
use Rattle.object_table.proofs.Order.{All-right}
use Rattle.page_warehouse.specs.Events.{events_of, events_of_lives}
use Rattle.page_warehouse.specs.declared.event.Event.{Event}

-- the lives below the key
abbrev pub lives_before : ℕ → List Dated → List Dated
lives_before k ds = filter (λ d. not (nat_le k (key d))) ds

none_before : (k : ℕ) (ds : List Dated) → ((i : ℕ) (e : Dated) → i < length ds → k ≤ key (get_or ds i e)) → lives_before k ds ≡ []
none_before k [] from = refl
none_before k (d ∷ ds) from = let here : nat_le k (key d) ≡ true = le-leb k (key d) (from 0 d (omega arith)) in rw here (none_before k ds (λ i e lt. from (suc i) e (omega arith)))

pub first_walk : (ds : List Dated) → lives_before 0 ds ≡ []
first_walk ds = none_before 0 ds (λ i e lt. omega arith)

-- The lives below the key and those from it on are all of them.
parted : (k : ℕ) (ds : List Dated) → Ascend ds → lives_before k ds ++ lives_from k ds ≡ ds
parted k [] asc = refl
parted k (e ∷ ds) asc = elim (cases_Bool (nat_le k (key e))) [
  | inl here ↦
      let from : k ≤ key e = leb-true k (key e) here in
      let none = none_before k ds (λ i x lt. omega (arith, from, asc.0 i x lt)) in
      let rest : lives_from k ds ≡ ds = ap (λ (l : List Dated). l ++ lives_from k ds) (sym none) ∙ parted k ds asc.1 in
      rw here (ap (λ (l : List Dated). l ++ e ∷ lives_from k ds) none ∙ ap (λ (l : List Dated). e ∷ l) rest)
  | inr below ↦ rw below (ap (λ (l : List Dated). e ∷ l) (parted k ds asc.1))
]

-- in a list that ascends, those that do not come after one of them
up_to : (before : List Dated) (last : Dated) (after : List Dated) → Ascend (before ++ last ∷ after) → lives_before (key last + 1) (before ++ last ∷ after) ≡ before ++ last ∷ []
up_to [] last after asc =
    let own : nat_le (key last + 1) (key last) ≡ false = lt-leb (key last + 1) (key last) (omega arith) in
    rw own (ap (λ (l : List Dated). last ∷ l) (none_before (key last + 1) after (λ i x lt. omega (arith, asc.0 i x lt))))
up_to (e ∷ before) last after asc =
    let here : key e < key last = All-head (λ (d : Dated). key e < key d) last after (All-right (λ (d : Dated). key e < key d) before (last ∷ after) asc.0) in
    let below : nat_le (key last + 1) (key e) ≡ false = lt-leb (key last + 1) (key e) (omega (arith, here)) in
    rw below (ap (λ (l : List Dated). e ∷ l) (up_to before last after asc.1))

-- the last of some lives, by a call on their slice
module _ (found slice : List Dated) (shown o : Option Dated) (same : slice ≡ found) (at : shown ≡ slice_get slice (length slice - 1)) (copied : o ≡ shown) where
  here : o ≡ slice_get found (length found - 1)
  here = copied ∙ at ∙ ap (λ (l : List Dated). slice_get l (length l - 1)) same

  -- it stands behind the others
  pub last_of : (last : Dated) → o ≡ Some last → (front : List Dated) × (found ≡ front ++ last ∷ [])
  last_of last is =
      let k : ℕ = length found - 1 in
      let there : slice_get found k ≡ Some last = sym here ∙ is in
      let lt : k < length found = slice_get_within found k last there in
      (take k found, sym (take_all (k + 1) found (omega arith)) ∙ take_more found k last lt ∙ ap (λ (d : Dated). take k found ++ d ∷ []) (get_or_from_slice_get found k last last there))

  -- it is from the key on where all are
  pub last_from : (k : ℕ) (last : Dated) → o ≡ Some last → All (λ d. k ≤ key d) found → k ≤ key last
  last_from k last is from =
      let there : slice_get found (length found - 1) ≡ Some last = sym here ∙ is in
      subst (λ (d : Dated). k ≤ key d) (get_or_from_slice_get found (length found - 1) last last there) (from (length found - 1) last (slice_get_within found (length found - 1) last there))

  pub none_of : o ≡ None → found ≡ []
  none_of is = empty found (sym here ∙ is) where
    empty : (ds : List Dated) → slice_get ds (length ds - 1) ≡ None → ds ≡ []
    empty [] none = refl
    empty (d ∷ ds) none = absurd (none-some _ (sym none ∙ slice_get-get_or (d ∷ ds) (length (d ∷ ds) - 1) d (omega arith)))

-- a walk goes on by those that are next
pub walk_on : (k : ℕ) (ds found front : List Dated) (last : Dated) → Ascend ds → AreNext found k ds → found ≡ front ++ last ∷ [] → lives_before (key last + 1) ds ≡ lives_before k ds ++ found
walk_on k ds found front last asc next is =
    let before : List Dated = lives_before k ds ++ front in
    let whole : ds ≡ before ++ last ∷ next.later =
    sym (parted k ds asc) ∙ ap (λ (l : List Dated). lives_before k ds ++ l) next.cut ∙ ap (λ (l : List Dated). lives_before k ds ++ (l ++ next.later)) is
    ∙ regrouped (lives_before k ds) front last next.later in
    ap (lives_before (key last + 1)) whole ∙ up_to before last next.later (subst Ascend whole asc) ∙ append_assoc (lives_before k ds) front (last ∷ [])
    ∙ ap (λ (l : List Dated). lives_before k ds ++ l) (sym is)
  where
    regrouped : (a b : List Dated) (d : Dated) (c : List Dated) → a ++ ((b ++ d ∷ []) ++ c) ≡ (a ++ b) ++ d ∷ c
    regrouped a b d c = simp append_assoc

-- a walk that finds no more has passed them all
pub walk_ends : (k : ℕ) (ds found : List Dated) → Ascend ds → AreNext found k ds → found ≡ [] → lives_before k ds ≡ ds
walk_ends k ds found asc next none =
    let gone : lives_from k ds ≡ [] = next.cut ∙ ap (λ (l : List Dated). l ++ next.later) none ∙ next.some none in
    sym (append-nil (lives_before k ds)) ∙ ap (λ (l : List Dated). lives_before k ds ++ l) (sym gone) ∙ parted k ds asc

-- the events of the lives that are next, which were put behind those so far
pub events_on : (events more : List Event) (k : ℕ) (ds found row front : List Dated) (last : Dated) → Ascend ds → AreNext found k ds → found ≡ front ++ last ∷ []
    → events ≡ events_of_lives (lives_before k ds) → row ≡ found → more ≡ events ++ events_of_lives row → more ≡ events_of_lives (lives_before (key last + 1) ds)
events_on events more k ds found row front last asc next is so_far same pushed =
    pushed ∙ ap (λ (es : List Event). es ++ events_of_lives row) so_far ∙ sym (flat_map-append events_of (lives_before k ds) row)
    ∙ ap (λ (l : List Dated). events_of_lives (lives_before k ds ++ l)) same ∙ ap events_of_lives (sym (walk_on k ds found front last asc next is))
