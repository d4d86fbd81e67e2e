-- Lists in strict order of a number.
use Rattle.std.proofs.Common.{◌≡◌, ℕ, zero, suc, ◌+◌, ◌<◌, ◌≤◌, List, [], ◌∷◌, ◌++◌, length, get_or, take, drop, sym, subst, arith}
use Rattle.std.specs.List.{All, AllAdjacentBelow}
use Rattle.std.proofs.lemmas.List.{take-append-drop}
use Rattle.std.proofs.lemmas.List.Elements.{All-cons, All-nil}
use Rattle.object_table.specs.Keys.{AscendBy}
use Rattle.object_table.proofs.Order.{All-left, All-right, All-join}
use Rattle.object_table.proofs.Searching.{All-head, All-tail}

module _ {X : Type 0} (k : X → ℕ) where
  pub asc_at : (xs : List X) (i j : ℕ) (d : X) → AscendBy k xs → i < j → j < length xs → k (get_or xs i d) < k (get_or xs j d)
  asc_at [] i j d a less h = absurd (omega (arith, h))
  asc_at (x ∷ xs) i zero d a less h = absurd (omega (arith, less))
  asc_at (x ∷ xs) zero (suc j) d a less h = a.0 j d (omega (arith, h))
  asc_at (x ∷ xs) (suc i) (suc j) d a less h = asc_at xs i j d a.1 (omega (arith, less)) (omega (arith, h))

  pub asc_adjacent : (xs : List X) → AscendBy k xs → AllAdjacentBelow (λ x y. k x < k y) xs (length xs)
  asc_adjacent xs a = λ i d h. asc_at xs i (i + 1) d a (omega arith) h

  adjacent_tail : (x : X) (xs : List X) → AllAdjacentBelow (λ x y. k x < k y) (x ∷ xs) (length (x ∷ xs)) → AllAdjacentBelow (λ x y. k x < k y) xs (length xs)
  adjacent_tail x xs adj = λ i d h.
      let place : suc i + 1 ≡ suc (i + 1) = omega arith in
      subst (λ (j : ℕ). k (get_or (x ∷ xs) (suc i) d) < k (get_or (x ∷ xs) j d)) place (adj (suc i) d (omega (arith, h)))

  above_first : (x : X) (xs : List X) → AllAdjacentBelow (λ x y. k x < k y) (x ∷ xs) (length (x ∷ xs)) → AscendBy k xs → All (λ y. k x < k y) xs
  above_first x [] adj rest = All-nil (λ (y : X). k x < k y)
  above_first x (y ∷ ys) adj rest =
      let first : k x < k y = adj 0 x (omega arith) in
      All-cons (λ (z : X). k x < k z) y ys first (λ i d h. omega (arith, first, rest.0 i d h))

  pub asc_from : (xs : List X) → AllAdjacentBelow (λ x y. k x < k y) xs (length xs) → AscendBy k xs
  asc_from [] adj = tt
  asc_from (x ∷ xs) adj =
      let rest = asc_from xs (adjacent_tail x xs adj) in
      (above_first x xs adj rest, rest)

  pub asc_left : (xs ys : List X) → AscendBy k (xs ++ ys) → AscendBy k xs
  asc_left [] ys a = tt
  asc_left (x ∷ xs) ys a = (All-left (λ (y : X). k x < k y) xs ys a.0, asc_left xs ys a.1)

  pub asc_right : (xs ys : List X) → AscendBy k (xs ++ ys) → AscendBy k ys
  asc_right [] ys a = a
  asc_right (x ∷ xs) ys a = asc_right xs ys a.1

  pub asc_join : (xs ys : List X) (bound : ℕ) → AscendBy k xs → AscendBy k ys → All (λ x. k x < bound) xs → All (λ y. bound ≤ k y) ys → AscendBy k (xs ++ ys)
  asc_join [] ys bound a b below above = b
  asc_join (x ∷ xs) ys bound a b below above =
      let here = All-head (λ (x : X). k x < bound) x xs below in
      (All-join (λ (y : X). k x < k y) xs ys a.0 (λ j d h. omega (arith, here, above j d h)), asc_join xs ys bound a.1 b (All-tail (λ (x : X). k x < bound) x xs below) above)

  pub asc_insert : (xs ys : List X) (x : X) → AscendBy k (xs ++ ys) → All (λ y. k y < k x) xs → All (λ y. k x < k y) ys → AscendBy k (xs ++ (x ∷ ys))
  asc_insert xs ys x a less more =
      asc_join xs (x ∷ ys) (k x) (asc_left xs ys a) (more, asc_right xs ys a) less (All-cons (λ (y : X). k x ≤ k y) x ys (omega arith) (λ j d h. omega (arith, more j d h)))

  pub asc_before : (xs : List X) (y : X) (ys : List X) → AscendBy k (xs ++ (y ∷ ys)) → All (λ x. k x < k y) xs
  asc_before [] y ys a = All-nil (λ (x : X). k x < k y)
  asc_before (x ∷ xs) y ys a =
      All-cons (λ (z : X). k z < k y) x xs (All-head (λ (z : X). k x < k z) y ys (All-right (λ (z : X). k x < k z) xs (y ∷ ys) a.0)) (asc_before xs y ys a.1)

  pub asc_first : (y : X) (ys : List X) → AscendBy k (y ∷ ys) → All (λ x. k y ≤ k x) (y ∷ ys)
  asc_first y ys a = All-cons (λ (x : X). k y ≤ k x) y ys (omega arith) (λ j d h. omega (arith, a.0 j d h))

-- a list in order, of which each keeps its rule and is typed
pub record Proper {X : Type 0} (k : X → ℕ) (keeps typed : X → Type 0) (xs : List X) : Type 0 where
  pub asc : AscendBy k xs
  pub each : All keeps xs
  pub types : All typed xs

module _ {X : Type 0} (k : X → ℕ) (keeps typed : X → Type 0) where
  pub proper_left : (xs ys : List X) → Proper k keeps typed (xs ++ ys) → Proper k keeps typed xs
  proper_left xs ys p = record { asc = asc_left k xs ys p.asc; each = All-left keeps xs ys p.each; types = All-left typed xs ys p.types }

  pub proper_right : (xs ys : List X) → Proper k keeps typed (xs ++ ys) → Proper k keeps typed ys
  proper_right xs ys p = record { asc = asc_right k xs ys p.asc; each = All-right keeps xs ys p.each; types = All-right typed xs ys p.types }

  pub proper_insert : (xs ys : List X) (x : X) → Proper k keeps typed (xs ++ ys) → keeps x → typed x → All (λ y. k y < k x) xs → All (λ y. k x < k y) ys → Proper k keeps typed (xs ++ (x ∷ ys))
  proper_insert xs ys x p kept types less more = record {
    asc = asc_insert k xs ys x p.asc less more;
    each = All-join keeps xs (x ∷ ys) (All-left keeps xs ys p.each) (All-cons keeps x ys kept (All-right keeps xs ys p.each));
    types = All-join typed xs (x ∷ ys) (All-left typed xs ys p.types) (All-cons typed x ys types (All-right typed xs ys p.types));
  }

  pub proper_take : (n : ℕ) (xs : List X) → Proper k keeps typed xs → Proper k keeps typed (take n xs)
  proper_take n xs p = proper_left (take n xs) (drop n xs) (subst (Proper k keeps typed) (sym (take-append-drop n xs)) p)

  pub proper_drop : (n : ℕ) (xs : List X) → Proper k keeps typed xs → Proper k keeps typed (drop n xs)
  proper_drop n xs p = proper_right (take n xs) (drop n xs) (subst (Proper k keeps typed) (sym (take-append-drop n xs)) p)
