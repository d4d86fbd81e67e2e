-- Lists that are joined in another order.
use Rattle.std.proofs.Common.{ℕ, zero, suc, ◌<◌, List, [], ◌∷◌, ◌++◌, length, get_or, set, swap, subst, append_assoc, arith, IsPermutation}
use Rattle.std.proofs.lemmas.List.Edits.{swap_is}
use Rattle.std.proofs.lemmas.List.Sorted.{IsPermutation-append_comm, IsPermutation-append_left, IsPermutation-append_right, IsPermutation-keeps, IsPermutation-refl, IsPermutation-trans}
use Rattle.std.specs.List.{flat_map}

-- the first two of three change places
two_first : {Y : Type 0} (a b c : List Y) → IsPermutation (a ++ (b ++ c)) (b ++ (a ++ c))
two_first a b c =
    subst (λ l. IsPermutation l (b ++ (a ++ c))) (append_assoc a b c)
    (subst (λ l. IsPermutation ((a ++ b) ++ c) l) (append_assoc b a c) (IsPermutation-append_left c (a ++ b) (b ++ a) (IsPermutation-append_comm a b)))

module _ {X Y : Type 0} (f : X → List Y) where
  -- the first one and another change places
  first_swapped : (x : X) (xs : List X) (j : ℕ) (d : X) → j < length xs → IsPermutation (f x ++ flat_map f xs) (f (get_or xs j d) ++ flat_map f (set xs j x))
  first_swapped x [] j d lt = absurd (omega arith)
  first_swapped x (z ∷ zs) zero d lt = two_first (f x) (f z) (flat_map f zs)
  first_swapped x (z ∷ zs) (suc j) d lt =
      let y : X = get_or zs j d in
      let rest : List Y = flat_map f (set zs j x) in
      IsPermutation-trans (f x ++ (f z ++ flat_map f zs)) (f z ++ (f x ++ flat_map f zs)) (f y ++ (f z ++ rest)) (two_first (f x) (f z) (flat_map f zs))
      (IsPermutation-trans (f z ++ (f x ++ flat_map f zs)) (f z ++ (f y ++ rest)) (f y ++ (f z ++ rest))
      (IsPermutation-append_right (f z) (f x ++ flat_map f zs) (f y ++ rest) (first_swapped x zs j d (omega arith))) (two_first (f z) (f y) rest))

  swapped : (xs : List X) (i j : ℕ) (d : X) → i < length xs → j < length xs → IsPermutation (flat_map f xs) (flat_map f (set (set xs i (get_or xs j d)) j (get_or xs i d)))
  swapped [] i j d p q = absurd (omega arith)
  swapped (x ∷ xs) zero zero d p q = IsPermutation-refl (f x ++ flat_map f xs)
  swapped (x ∷ xs) zero (suc j) d p q = first_swapped x xs j d (omega arith)
  swapped (x ∷ xs) (suc i) zero d p q = first_swapped x xs i d (omega arith)
  swapped (x ∷ xs) (suc i) (suc j) d p q = IsPermutation-append_right (f x) (flat_map f xs) _ (swapped xs i j d (omega arith) (omega arith))

  pub rejoined : (xs ys : List X) → IsPermutation xs ys → IsPermutation (flat_map f xs) (flat_map f ys)
  rejoined xs ys = IsPermutation-keeps xs (λ l. IsPermutation (flat_map f xs) (flat_map f l)) (IsPermutation-refl (flat_map f xs)) (λ l i j p q h.
      IsPermutation-trans (flat_map f xs) (flat_map f l) _ h (exchanged l i j p q)) ys
    where
      exchanged : (l : List X) (i j : ℕ) → (p : i < length l) → (q : j < length l) → IsPermutation (flat_map f l) (flat_map f (swap l i j))
      exchanged [] i j p q = absurd (omega arith)
      exchanged (x ∷ xs) i j p q = subst (λ (l : List X). IsPermutation (flat_map f (x ∷ xs)) (flat_map f l)) (swap_is (x ∷ xs) i j x p q) (swapped (x ∷ xs) i j x p q)
