-- The lives of a history, in order of their add events, are its lives.
use Rattle.std.proofs.Common.{◌≡◌, ℕ, zero, suc, ◌+◌, List, [], ◌∷◌, ◌++◌, get_or, map, refl, sym, ◌∙◌, ap, subst, arith, IsPermutation, Bool, true, if◌then◌else◌}
use Rattle.std.proofs.lemmas.List.{length-map}
use Rattle.std.proofs.lemmas.List.Sorted.{IsNonDecreasingBy-from_default, IsNonDecreasingBy-short, IsPermutation-map, IsPermutation-sym, IsPermutation-trans, length_permutation}
use Rattle.std.specs.List.Sorted.{IsNonDecreasingBy}
use Rattle.bw_types.specs.History.{History}
use Rattle.bw_types.specs.Lives.{Numbered, begun_life, lives, lives_after, numbered}
use Rattle.bw_types.specs.declared.change.Change.TheVariants as change
use Rattle.bw_types.specs.declared.dated.Dated.{Dated}
use Rattle.bw_types.specs.declared.object.Object.{Object}
use Rattle.object_table.specs.Laws.{Ascend}
use Rattle.object_table.specs.Lives.{AreNext}
use Rattle.object_table.specs.Keys.{key}
use Rattle.history_laws.proofs.Batches.{events_rise}
use Rattle.history_laws.proofs.InOrder.{From, Rising, in_order_is}
use Rattle.history_laws.proofs.Members.{among_permuted}
use Rattle.page_warehouse.proofs.PassedLives.{lives_before, walk_on}

-- what a push leaves where it had memory
pub pushed : {X : Type 0} (b : Bool) (x l m : X) → b ≡ true → x ≡ (if b then l else m) → x ≡ l
pushed b x l m so is = is ∙ ap (λ (c : Bool). if c then l else m) so

-- a walk goes on by the lives that are next
pub lives_on : (found more : List Dated) (k : ℕ) (ds leaf row front : List Dated) (last : Dated) → Ascend ds → AreNext leaf k ds → leaf ≡ front ++ last ∷ [] → found ≡ lives_before k ds
    → row ≡ leaf → more ≡ found ++ row → more ≡ lives_before (key last + 1) ds
lives_on found more k ds leaf row front last asc next is so_far same pushed =
    pushed ∙ ap (λ (l : List Dated). l ++ row) so_far ∙ ap (λ (l : List Dated). lives_before k ds ++ l) same ∙ sym (walk_on k ds leaf front last asc next is)

-- A life as a change that is numbered by its add event. One of its numbers stands for the version.
module _ (part : Dated → ℕ) where
  numbered_by : Dated → Numbered
  numbered_by d = record { version = part d; event = d.add_event; change = change.Add d.object }

  from_lives : (e : ℕ) (earlier ns : List Numbered) → From e ns → From e (map numbered_by (lives_after earlier ns))
  unfolding numbered_by
  from_lives e earlier [] f = tt
  from_lives e earlier (n ∷ ns) f =
      elim n.change as (λ c. From e (map numbered_by (begun_life earlier n c ns ++ lives_after (earlier ++ n ∷ []) ns))) [
        | change.Add o ↦ (f.0, from_lives e (earlier ++ n ∷ []) ns f.1)
        | change.Withdraw id ↦ from_lives e (earlier ++ n ∷ []) ns f.1
      ]

  rising_lives : (earlier ns : List Numbered) → Rising ns → Rising (map numbered_by (lives_after earlier ns))
  unfolding numbered_by
  rising_lives earlier [] r = tt
  rising_lives earlier (n ∷ ns) r =
      elim n.change as (λ c. Rising (map numbered_by (begun_life earlier n c ns ++ lives_after (earlier ++ n ∷ []) ns))) [
        | change.Add o ↦ (from_lives (n.event + 1) (earlier ++ n ∷ []) ns r.0, rising_lives (earlier ++ n ∷ []) ns r.1)
        | change.Withdraw id ↦ rising_lives (earlier ++ n ∷ []) ns r.1
      ]

  event_at : (ds : List Dated) (i : ℕ) (d : Dated) → (get_or (map numbered_by ds) i (numbered_by d)).event ≡ (get_or ds i d).add_event
  unfolding numbered_by
  event_at [] i d = refl
  event_at (x ∷ ds) zero d = refl
  event_at (x ∷ ds) (suc i) d = event_at ds i d

  numbered_up : (ds : List Dated) → IsNonDecreasingBy (λ d. d.add_event) ds → IsNonDecreasingBy (λ (n : Numbered). n.event) (map numbered_by ds)
  numbered_up [] up = IsNonDecreasingBy-short (λ (n : Numbered). n.event) [] (omega arith)
  numbered_up (x ∷ ds) up = IsNonDecreasingBy-from_default (λ (n : Numbered). n.event) (map numbered_by (x ∷ ds)) (numbered_by x) (λ i j le lt.
      omega (arith, event_at (x ∷ ds) i x, event_at (x ∷ ds) j x, up i j x le (omega (arith, lt, length-map (x ∷ ds) numbered_by))))

  same_part : (h : History) (sorted : List Dated) → IsPermutation (lives h) sorted → IsNonDecreasingBy (λ d. d.add_event) sorted → map numbered_by sorted ≡ map numbered_by (lives h)
  same_part h sorted all up =
      let moved : IsPermutation (map numbered_by (lives h)) (map numbered_by sorted) = IsPermutation-map numbered_by (lives h) sorted all in
      in_order_is (map numbered_by (lives h)) (map numbered_by sorted) (rising_lives [] (numbered h) (events_rise h)) (numbered_up sorted up)
      (λ x a. among_permuted (map numbered_by (lives h)) (map numbered_by sorted) x moved a)
      (length-map sorted numbered_by ∙ (length_permutation (lives h) sorted all ∙ sym (length-map (lives h) numbered_by)))

-- a life by its numbers
same_life : (d e : Dated) → change.Add d.object ≡ change.Add e.object → d.add_event ≡ e.add_event → d.life ≡ e.life → d.added ≡ e.added → d.withdrawn ≡ e.withdrawn
    → d.withdraw_event ≡ e.withdraw_event → d ≡ e
same_life d e objects events lives adds ends end_events =
    let same : made d.object d.life d.added d.add_event d.withdrawn d.withdraw_event ≡ made e.object e.life e.added e.add_event e.withdrawn e.withdraw_event = cc in
    same
  where
    made : Object → (l a f w v : ℕ) → Dated
    made o l a f w v = record { object = o; life = l; added = a; add_event = f; withdrawn = w; withdraw_event = v }

-- lives with the same numbers are the same
same_lives : (ds es : List Dated) → map (numbered_by (λ d. d.life)) ds ≡ map (numbered_by (λ d. d.life)) es → map (numbered_by (λ d. d.added)) ds ≡ map (numbered_by (λ d. d.added)) es
    → map (numbered_by (λ d. d.withdrawn)) ds ≡ map (numbered_by (λ d. d.withdrawn)) es → map (numbered_by (λ d. d.withdraw_event)) ds ≡ map (numbered_by (λ d. d.withdraw_event)) es
    → ds ≡ es
unfolding numbered_by
same_lives [] [] a b c e = refl
same_lives [] (y ∷ ys) a b c e = absurd (cc)
same_lives (x ∷ xs) [] a b c e = absurd (cc)
same_lives (x ∷ xs) (y ∷ ys) a b c e =
    let rest : xs ≡ ys = same_lives xs ys (cc) (cc) (cc) (cc) in
    let la : numbered_by (λ d. d.life) x ≡ numbered_by (λ d. d.life) y = cc in
    let lb : numbered_by (λ d. d.added) x ≡ numbered_by (λ d. d.added) y = cc in
    let lc : numbered_by (λ d. d.withdrawn) x ≡ numbered_by (λ d. d.withdrawn) y = cc in
    let le : numbered_by (λ d. d.withdraw_event) x ≡ numbered_by (λ d. d.withdraw_event) y = cc in
    ap (λ (d : Dated). d ∷ xs) (same_life x y (ap (λ (n : Numbered). n.change) la) (ap (λ (n : Numbered). n.event) la)
    (ap (λ (n : Numbered). n.version) la) (ap (λ (n : Numbered). n.version) lb) (ap (λ (n : Numbered). n.version) lc) (ap (λ (n : Numbered). n.version) le))
    ∙ ap (λ (ds : List Dated). y ∷ ds) rest

-- all lives, put in order of adding
pub in_order_of_adding : (h : History) (kept found sorted : List Dated) → IsPermutation kept (lives h) → found ≡ kept → IsPermutation found sorted → IsNonDecreasingBy (λ d. d.add_event) sorted
    → sorted ≡ lives h
in_order_of_adding h kept found sorted all are same up =
    let moved : IsPermutation (lives h) sorted =
    IsPermutation-trans (lives h) kept sorted (IsPermutation-sym kept (lives h) all) (subst (λ (ds : List Dated). IsPermutation ds sorted) are same) in
    same_lives sorted (lives h) (same_part (λ d. d.life) h sorted moved up) (same_part (λ d. d.added) h sorted moved up)
    (same_part (λ d. d.withdrawn) h sorted moved up) (same_part (λ d. d.withdraw_event) h sorted moved up)
