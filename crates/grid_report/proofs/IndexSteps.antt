-- The indexes of an element, taken from its number one by one, the last of them first.
use Rattle.std.proofs.Common.{◌≡◌, ℕ, zero, suc, ◌+◌, ◌-◌, ◌*◌, ◌/◌, ◌%◌, ◌<◌, ◌≤◌, List, [], ◌∷◌, ◌++◌, length, take, drop, set, slice_index, refl, sym, ap, ◌∙◌, append-nil, append_assoc, add-one, arith, inl, inr}
use Rattle.std.proofs.Math.Nat.{mod-lt}
use Rattle.std.proofs.Math.Seq.{take-set-lt}
use Rattle.std.proofs.lemmas.Bool.{cases_lt}
use Rattle.std.proofs.lemmas.List.{drop-set, drop_all, get_or_append_left, get_or_push, length_push, length-set, length-take-le}
use Rattle.std.proofs.lemmas.Nat.{div_below}
use Rattle.bw_types.specs.Tally.{product_below}
use Rattle.grid_report.specs.Indexes.{indexes_of}

-- The indexes in the dimensions from i on stand in the array; the rest is the number of the others.
pub record HoldsIndexes (dims : ℕ) (n : ℕ → ℕ) (number i rest : ℕ) (array : List ℕ) : Type 0 where
  pub size : length array ≡ 3
  pub below : rest < product_below i n
  pub so_far : indexes_of dims n number ≡ indexes_of i n rest ++ drop i (take dims array)

-- none so far
pub holds-none : (dims : ℕ) (n : ℕ → ℕ) (number : ℕ) (array : List ℕ) → length array ≡ 3 → dims ≤ 3 → number < product_below dims n → HoldsIndexes dims n number dims number array
holds-none dims n number array size h below =
    let taken = length-take-le dims array (omega arith) in
    record { size = size; below = below; so_far = sym (append-nil (indexes_of dims n number)) ∙ ap (λ l. indexes_of dims n number ++ l) (sym (drop_all dims (take dims array) (omega arith))) }

-- where a number is below the product there is an index in the last dimension
some-last : (product last rest : ℕ) → rest < product * last → 0 < last
some-last product last rest below =
    elim (cases_lt 0 last) [
      | inl some ↦ some
      | inr none ↦ let z : last ≡ 0 = omega arith in absurd (omega (arith, rw z at below))
    ]

pub some-index : (i : ℕ) (n : ℕ → ℕ) (rest : ℕ) → 0 < i → rest < product_below i n → 0 < n (i - 1)
some-index zero n rest h below = absurd (omega arith)
some-index (suc i) n rest h below = let e : suc i - 1 ≡ i = omega arith in rw e (some-last (product_below i n) (n i) rest below)

-- one more
holds-more_at : (dims : ℕ) (n : ℕ → ℕ) (number i rest : ℕ) (array : List ℕ) → i < dims → dims ≤ 3 → HoldsIndexes dims n number (suc i) rest array
    → 0 < n i → HoldsIndexes dims n number i (rest / n i) (set array i (rest % n i))
holds-more_at dims n number i rest array h few g some =
    let x = rest % n i in
    let taken = length-take-le dims array (omega (arith, g.size)) in
    let put : drop i (take dims (set array i x)) ≡ x ∷ drop (suc i) (take dims array) = ap (drop i) (take-set-lt dims array i x h) ∙ drop-set (take dims array) i x (omega arith) ∙ ap (λ k. x ∷ drop k (take dims array)) (add-one i) in
    record {
      size = length-set array i x ∙ g.size;
      below = div_below rest (n i) (product_below i n) some g.below;
      so_far = g.so_far ∙ append_assoc (indexes_of i n (rest / n i)) (x ∷ []) (drop (suc i) (take dims array)) ∙ ap (λ l. indexes_of i n (rest / n i) ++ l) (sym put);
    }

pub holds-more : (dims : ℕ) (n : ℕ → ℕ) (number i rest size : ℕ) (array : List ℕ) → 0 < i → i ≤ dims → dims ≤ 3 → size ≡ n (i - 1) → HoldsIndexes dims n number i rest array
    → HoldsIndexes dims n number (i - 1) (rest / size) (set array (i - 1) (rest % size))
holds-more dims n number zero rest size array pos le few is g = absurd (omega arith)
holds-more dims n number (suc i) rest size array pos le few is g =
    let e : suc i - 1 ≡ i = omega arith in
    let some = some-last (product_below i n) (n i) rest g.below in
    rw (is, e) (holds-more_at dims n number i rest array (omega arith) few g some)

-- all of them
pub holds-all : (dims : ℕ) (n : ℕ → ℕ) (number rest : ℕ) (array : List ℕ) → HoldsIndexes dims n number 0 rest array → take dims array ≡ indexes_of dims n number
holds-all dims n number rest array g = sym g.so_far

-- there is one index for each dimension, below the number of indexes there
pub length-indexes : (dims : ℕ) (n : ℕ → ℕ) (number : ℕ) → length (indexes_of dims n number) ≡ dims
length-indexes zero n number = refl
length-indexes (suc dims) n number = length_push (indexes_of dims n (number / n dims)) (number % n dims) ∙ ap (λ k. k + 1) (length-indexes dims n (number / n dims)) ∙ add-one dims

pub index-below : (dims : ℕ) (n : ℕ → ℕ) (number : ℕ) → number < product_below dims n → (i : ℕ) → i < dims → slice_index (indexes_of dims n number) i < n i
index-below zero n number h i lt = absurd (omega arith)
index-below (suc dims) n number h i lt =
    let some = some-last (product_below dims n) (n dims) number h in
    let before = indexes_of dims n (number / n dims) in
    let last = number % n dims in
    let size = length-indexes dims n (number / n dims) in
    elim (cases_lt i dims) [
      | inl first ↦
          let at : slice_index (before ++ last ∷ []) i ≡ slice_index before i = get_or_append_left before (last ∷ []) 0 i (omega arith) in
          rw at (index-below dims n (number / n dims) (div_below number (n dims) (product_below dims n) some h) i first)
      | inr end ↦
          let e : i ≡ dims = omega arith in
          let at : slice_index (before ++ last ∷ []) i ≡ last = get_or_push before last 0 i (omega arith) in
          rw at (rw e (mod-lt number some))
    ]
