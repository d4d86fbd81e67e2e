-- Sums whose terms have the same residues.
use Rattle.std.proofs.Common.{List, [], ◌∷◌, map, length, get_or, ◌≡◌, ℕ, zero, suc, ◌+◌, ◌*◌, ◌%◌, ◌^◌, ◌<◌, Bool, true, false, ◌&&◌, if◌then◌else◌, ℤ, pos, neg_ℤ, ◌+ℤ◌, ◌*ℤ◌, arith, refl, ◌∙◌, ap, sym}
use Rattle.std.proofs.Math.IntN.{one, zero-*ℤ, *ℤ-zero, *ℤ_comm, *ℤ-one}
use Rattle.std.proofs.lemmas.Int.{ints}
use Rattle.std.proofs.lemmas.List.Sums.{sum_by-cons}
use Rattle.std.specs.List.{All, zip, range_with_len, sum_by}
use Rattle.bw_types.specs.Tally.{int_sum_by}
use Rattle.bw_types.specs.Residues.{residue, opposite_residue}
use Rattle.bw_types.specs.ResidueLaws.{residue_of_sum, residue_of_product, residue_of_small, residue_of_opposite, residue_is_below}
use Rattle.corner_weights.specs.Sums.{int_sum_below}
use Rattle.corner_weights.proofs.Whole.{opposite_times}
use Rattle.corner_weights.proofs.ListSums.{EachOf}

pub each-of-all : {X : Type 0} (p : X → Type 0) (xs : List X) → All p xs → EachOf p xs
each-of-all p [] all = tt
each-of-all p (x ∷ xs) all = (all 0 x (omega arith), each-of-all p xs (λ k d h. all (suc k) d (omega arith)))

pub residue-sum : {X : Type 0} (p : X → Type 0) (f g : X → ℤ) (xs : List X) → EachOf p xs → ((x : X) → p x → residue (f x) ≡ residue (g x)) → residue (int_sum_by f xs) ≡ residue (int_sum_by g xs)
residue-sum p f g [] a e = refl
residue-sum p f g (x ∷ xs) a e =
    residue_of_sum (f x) (int_sum_by f xs)
    ∙ ap (λ r. (r + residue (int_sum_by f xs)) % 2 ^ 128) (e x a.0)
    ∙ ap (λ r. (residue (g x) + r) % 2 ^ 128) (residue-sum p f g xs a.1 e)
    ∙ sym (residue_of_sum (g x) (int_sum_by g xs))

pub sum-each : {X : Type 0} (p : X → Type 0) (f g : X → ℤ) (xs : List X) → EachOf p xs → ((x : X) → p x → f x ≡ g x) → int_sum_by f xs ≡ int_sum_by g xs
sum-each p f g [] a e = refl
sum-each p f g (x ∷ xs) a e = ap (λ z. z +ℤ int_sum_by f xs) (e x a.0) ∙ ap (λ z. g x +ℤ z) (sum-each p f g xs a.1 e)

pub residue-below : (n : ℕ) (f g : ℕ → ℤ) → ((k : ℕ) → k < n → residue (f k) ≡ residue (g k)) → residue (int_sum_below n f) ≡ residue (int_sum_below n g)
residue-below zero f g e = refl
residue-below (suc n) f g e =
    residue_of_sum (int_sum_below n f) (f n)
    ∙ ap (λ r. (r + residue (f n)) % 2 ^ 128) (residue-below n f g (λ k h. e k (omega arith)))
    ∙ ap (λ r. (residue (int_sum_below n g) + r) % 2 ^ 128) (e n (omega arith))
    ∙ sym (residue_of_sum (int_sum_below n g) (g n))

below-front : (n : ℕ) (f : ℕ → ℤ) → int_sum_below (suc n) f ≡ f 0 +ℤ int_sum_below n (λ k. f (suc k))
below-front zero f = omega (arith, ints)
below-front (suc n) f = let rest = below-front n f in omega (arith, ints)

below-same : (n : ℕ) (f g : ℕ → ℤ) → ((k : ℕ) → f k ≡ g k) → int_sum_below n f ≡ int_sum_below n g
below-same zero f g e = refl
below-same (suc n) f g e = ap (λ z. z +ℤ f n) (below-same n f g e) ∙ ap (λ z. int_sum_below n g +ℤ z) (e n)

-- a sum over numbers from a on
pub sum-range : (f : ℕ → ℤ) (a n : ℕ) → int_sum_by f (range_with_len a n) ≡ int_sum_below n (λ k. f (a + k))
sum-range f a zero = refl
sum-range f a (suc n) =
    let here : a ≡ a + 0 = omega arith in
    ap (λ z. f a +ℤ z) (sum-range f (a + 1) n ∙ below-same n (λ k. f (a + 1 + k)) (λ k. f (a + suc k)) (λ k. ap f (next k)))
    ∙ ap (λ b. f b +ℤ int_sum_below n (λ k. f (a + suc k))) here
    ∙ sym (below-front n (λ k. f (a + k)))
  where
    next : (k : ℕ) → a + 1 + k ≡ a + suc k
    next k = omega arith

pub sum-numbers : (f : ℕ → ℤ) (n : ℕ) → int_sum_by f (range_with_len 0 n) ≡ int_sum_below n f
sum-numbers f n = sum-range f 0 n ∙ below-same n (λ k. f (0 + k)) f (λ k. ap f (plain k))
  where
    plain : (k : ℕ) → 0 + k ≡ k
    plain k = omega arith

-- a sum of numbers from 0 on, as one of whole numbers
pub sum_by-whole : {X : Type 0} (h : X → ℕ) (xs : List X) → pos (sum_by h xs) ≡ int_sum_by (λ x. pos (h x)) xs
sum_by-whole h [] = refl
sum_by-whole h (x ∷ xs) = ap pos (sum_by-cons h x xs) ∙ ap (λ z. pos (h x) +ℤ z) (sum_by-whole h xs)

-- the residue of a residue, and of a product with one
pub residue-again : (x : ℤ) → residue (pos (residue x)) ≡ residue x
residue-again x = residue_of_small (residue x) (residue_is_below x)

pub residue-times : (w : ℕ) (z m : ℤ) → w ≡ residue z → residue (pos w *ℤ m) ≡ residue (z *ℤ m)
residue-times w z m e =
    residue_of_product (pos w) m ∙ ap (λ r. r * residue m % 2 ^ 128) (ap (λ v. residue (pos v)) e ∙ residue-again z) ∙ sym (residue_of_product z m)

one_times : (x : ℤ) → pos 1 *ℤ x ≡ x
unfolding one
one_times x = *ℤ_comm (pos 1) x ∙ *ℤ-one x

-- a weight that is taken where two tests hold, with a sign
pub taken-residue : (t b minus : Bool) (x : ℤ)
    → residue (pos (if t && b then (if minus then opposite_residue (residue x) else residue x) else 0)) ≡ residue ((if t then (if minus then neg_ℤ (pos 1) else pos 1) else pos 0) *ℤ (if b then x else pos 0))
taken-residue true true true x =
    ap (λ r. residue (pos r)) (sym (residue_of_opposite x)) ∙ residue-again (neg_ℤ x) ∙ ap residue (sym (opposite_times (pos 1) x ∙ ap neg_ℤ (one_times x)))
taken-residue true true false x = residue-again x ∙ ap residue (sym (one_times x))
taken-residue true false true x = ap residue (sym (*ℤ-zero (neg_ℤ (pos 1))))
taken-residue true false false x = ap residue (sym (*ℤ-zero (pos 1)))
taken-residue false b minus x = ap residue (sym (zero-*ℤ (if b then x else pos 0)))

-- a sum over a list beside a list of numbers that are told by its members
pub sum-beside : (f : ℕ × List ℕ → ℤ) (h : ℕ → ℕ) (at : List ℕ → ℕ) (a n : ℕ) (lists : List (List ℕ)) → length lists ≡ n → ((k : ℕ) → k < n → h (a + k) ≡ at (get_or lists k []))
    → int_sum_by f (zip (map h (range_with_len a n)) lists) ≡ int_sum_by (λ fs. f (at fs, fs)) lists
sum-beside f h at a zero [] e same = refl
sum-beside f h at a zero (l ∷ ls) e same = absurd (omega arith)
sum-beside f h at a (suc n) [] e same = absurd (omega arith)
sum-beside f h at a (suc n) (l ∷ ls) e same =
    let here : a ≡ a + 0 = omega arith in
    ap (λ w. f (w, l) +ℤ int_sum_by f (zip (map h (range_with_len (a + 1) n)) ls)) (ap h here ∙ same 0 (omega arith))
    ∙ ap (λ z. f (at l, l) +ℤ z) (sum-beside f h at (a + 1) n ls (omega arith) (λ k lt. ap h (next k) ∙ same (suc k) (omega arith)))
  where
    next : (k : ℕ) → a + 1 + k ≡ a + suc k
    next k = omega arith
