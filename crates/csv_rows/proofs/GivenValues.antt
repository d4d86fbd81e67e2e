-- Lists of values that are given one after the other, kept in an array.
use Rattle.std.proofs.Common.{◌≡◌, ℕ, zero, suc, ◌+◌, ◌-◌, ◌<◌, List, [], ◌∷◌, ◌++◌, length, replicate, set, Option, Some, None, option_map, sym, refl, ap, ◌∙◌, arith, add-one, append_assoc, inl, inr}
use Rattle.std.proofs.lemmas.List.{set_at, length_push}
use Rattle.std.proofs.lemmas.Bool.{cases_lt}
use Rattle.csv_rows.specs.Input.{each_given, filled, given}

-- the values below i are given, and the array holds them and zeros after them
pub record HoldsGiven {A : Type 0} (i : ℕ) (f : ℕ → Option A) (n : ℕ) (z : A) (array : List A) : Type 0 where
  values : List A
  are : each_given i f ≡ Some values
  count : length values ≡ i
  array_is : array ≡ filled n z values

-- none so far
pub holds-none : {A : Type 0} (f : ℕ → Option A) (n : ℕ) (z : A) → HoldsGiven 0 f n z (replicate n z)
holds-none f n z =
    let room : n ≡ n - 0 = omega arith in
    record { values = []; are = refl; count = refl; array_is = ap (λ k. replicate k z) room }

-- one value more at the end of those that an array holds
filled-more : {A : Type 0} (n : ℕ) (z x : A) (xs : List A) (i : ℕ) → length xs ≡ i → i < n → set (filled n z xs) i x ≡ filled n z (xs ++ x ∷ [])
filled-more n z x xs i e h =
    let room : n - length xs ≡ suc (n - (i + 1)) = omega arith in
    let rest : n - (i + 1) ≡ n - length (xs ++ x ∷ []) = omega (arith, length_push xs x) in
    ap (λ k. set (xs ++ replicate k z) i x) room ∙ set_at xs z (replicate (n - (i + 1)) z) x i e ∙ sym (append_assoc xs (x ∷ []) (replicate (n - (i + 1)) z)) ∙ ap (λ k. (xs ++ x ∷ []) ++ replicate k z) rest

pub holds-more : {A : Type 0} (i : ℕ) (f : ℕ → Option A) (n : ℕ) (z x : A) (array : List A) → i < n → HoldsGiven i f n z array → f i ≡ Some x → HoldsGiven (i + 1) f n z (set array i x)
holds-more i f n z x array h g e = record {
  values = g.values ++ x ∷ [];
  are = rw (add-one, g.are, e) refl;
  count = length_push g.values x ∙ ap (λ k. k + 1) g.count;
  array_is = ap (λ a. set a i x) g.array_is ∙ filled-more n z x g.values i g.count h;
}

-- all of them
pub holds-all : {A : Type 0} (m : ℕ) (f : ℕ → Option A) (n : ℕ) (z : A) (array : List A) → HoldsGiven m f n z array → Some array ≡ option_map (filled n z) (each_given m f)
holds-all m f n z array g = rw (g.are, g.array_is) refl

-- one is not given
each_given-none : {A : Type 0} (m i : ℕ) (f : ℕ → Option A) → i < m → f i ≡ None → each_given m f ≡ None
each_given-none zero i f h e = absurd (omega arith)
each_given-none (suc m) i f h e =
    elim (cases_lt i m) [
      | inl below ↦ rw (each_given-none m i f below e) refl
      | inr last ↦
          let is : i ≡ m = omega arith in
          rw (ap f (sym is) ∙ e) (elim (each_given m f) as (λ o. given o (λ xs. option_map (λ x. xs ++ x ∷ []) None) ≡ None) [ None ↦ refl | Some xs ↦ refl ])
    ]

pub none-given : {A : Type 0} (m i : ℕ) (f : ℕ → Option A) (n : ℕ) (z : A) → i < m → f i ≡ None → None ≡ option_map (filled n z) (each_given m f)
none-given m i f n z h e = rw (each_given-none m i f h e) refl
