-- Signed sums over the subsets of the dimensions: how they exchange with other sums, and that one of products, with a
-- factor for each dimension, is the product of the factors' differences.
use Rattle.std.proofs.Common.{List, [], ◌∷◌, ◌≡◌, ℕ, zero, suc, ◌^◌, ◌≤◌, Bool, true, false, if◌then◌else◌, ℤ, pos, neg_ℤ, ◌+ℤ◌, ◌-ℤ◌, ◌*ℤ◌, arith, refl, ◌∙◌, ap, sym}
use Rattle.std.proofs.Math.IntN.{zero-*ℤ, *ℤ-zero}
use Rattle.std.proofs.lemmas.Int.{ints}
use Rattle.bw_types.specs.Tally.{int_product_below, int_sum_by}
use Rattle.corner_weights.specs.Subsets.{is_in_subset, is_odd_subset, signed_by}
use Rattle.corner_weights.specs.Sums.{int_sum_below}
use Rattle.corner_weights.proofs.Whole.{times_sum, sum_times, times_opposite, opposite_times, times_difference, difference_times}
use Rattle.corner_weights.proofs.ListSums.{sum-equal, sum-zeros, sum-sums}

pub below-equal : (n : ℕ) (f g : ℕ → ℤ) → ((k : ℕ) → f k ≡ g k) → int_sum_below n f ≡ int_sum_below n g
below-equal zero f g e = refl
below-equal (suc n) f g e = ap (λ z. z +ℤ f n) (below-equal n f g e) ∙ ap (λ z. int_sum_below n g +ℤ z) (e n)

pub below-times : (n : ℕ) (f : ℕ → ℤ) (k : ℤ) → int_sum_below n f *ℤ k ≡ int_sum_below n (λ i. f i *ℤ k)
below-times zero f k = zero-*ℤ k
below-times (suc n) f k = sum_times (int_sum_below n f) (f n) k ∙ ap (λ z. z +ℤ f n *ℤ k) (below-times n f k)

pub times-below : (n : ℕ) (k : ℤ) (f : ℕ → ℤ) → int_sum_below n (λ i. k *ℤ f i) ≡ k *ℤ int_sum_below n f
times-below zero k f = sym (*ℤ-zero k)
times-below (suc n) k f = ap (λ z. z +ℤ k *ℤ f n) (times-below n k f) ∙ sym (times_sum k (int_sum_below n f) (f n))

pub below-exchange : {X : Type 0} (n : ℕ) (f : X → ℕ → ℤ) (xs : List X) → int_sum_by (λ x. int_sum_below n (f x)) xs ≡ int_sum_below n (λ k. int_sum_by (λ x. f x k) xs)
below-exchange zero f xs = sum-zeros xs
below-exchange (suc n) f xs =
    sum-sums (λ x. int_sum_below n (f x)) (λ x. f x n) xs ∙ ap (λ z. z +ℤ int_sum_by (λ x. f x n) xs) (below-exchange n f xs)

pub sum-opposites : {X : Type 0} (f : X → ℤ) (xs : List X) → int_sum_by (λ x. neg_ℤ (f x)) xs ≡ neg_ℤ (int_sum_by f xs)
sum-opposites f [] = refl
sum-opposites f (x ∷ xs) = let rest = sum-opposites f xs in omega (arith, ints)

-- the sign of a sum, and of a product
pub signed-sum : {X : Type 0} (subset : ℕ) (f : X → ℤ) (xs : List X) → int_sum_by (λ x. signed_by subset (f x)) xs ≡ signed_by subset (int_sum_by f xs)
signed-sum subset f xs = by_sign (is_odd_subset subset)
  where
    by_sign : (odd : Bool) → int_sum_by (λ x. if odd then neg_ℤ (f x) else f x) xs ≡ (if odd then neg_ℤ (int_sum_by f xs) else int_sum_by f xs)
    by_sign true = sum-opposites f xs
    by_sign false = refl

pub times-signed : (subset : ℕ) (k x : ℤ) → signed_by subset (k *ℤ x) ≡ k *ℤ signed_by subset x
times-signed subset k x = by_sign (is_odd_subset subset)
  where
    by_sign : (odd : Bool) → (if odd then neg_ℤ (k *ℤ x) else k *ℤ x) ≡ k *ℤ (if odd then neg_ℤ x else x)
    by_sign true = sym (times_opposite k x)
    by_sign false = refl

-- the signed sums of sums of multiples are those multiples of the signed sums
pub signed-multiples : {X : Type 0} (n : ℕ) (c : X → ℤ) (f : ℕ → X → ℤ) (xs : List X) → int_sum_below n (λ k. signed_by k (int_sum_by (λ x. c x *ℤ f k x) xs)) ≡ int_sum_by (λ x. c x *ℤ int_sum_below n (λ k. signed_by k (f k x))) xs
signed-multiples n c f xs =
    below-equal n (λ k. signed_by k (int_sum_by (λ x. c x *ℤ f k x) xs)) (λ k. int_sum_by (λ x. c x *ℤ signed_by k (f k x)) xs)
    (λ k. sym (signed-sum k (λ x. c x *ℤ f k x) xs) ∙ sum-equal (λ x. signed_by k (c x *ℤ f k x)) (λ x. c x *ℤ signed_by k (f k x)) xs (λ x. times-signed k (c x) (f k x)))
    ∙ sym (below-exchange n (λ x k. c x *ℤ signed_by k (f k x)) xs)
    ∙ sum-equal (λ x. int_sum_below n (λ k. c x *ℤ signed_by k (f k x))) (λ x. c x *ℤ int_sum_below n (λ k. signed_by k (f k x))) xs (λ x. times-below n (c x) (λ k. signed_by k (f k x)))

-- a weight that is taken or not, with its sign, times another
pub taken-times : (subset : ℕ) (t : Bool) (w m : ℤ) → (if t then signed_by subset w else pos 0) *ℤ m ≡ signed_by subset (if t then w *ℤ m else pos 0)
taken-times subset t w m = by_sign (is_odd_subset subset) t
  where
    by_sign : (odd t : Bool) → (if t then (if odd then neg_ℤ w else w) else pos 0) *ℤ m ≡ (if odd then neg_ℤ (if t then w *ℤ m else pos 0) else (if t then w *ℤ m else pos 0))
    by_sign true true = opposite_times w m
    by_sign true false = zero-*ℤ m
    by_sign false true = refl
    by_sign false false = zero-*ℤ m

pub taken-sum : {X : Type 0} (t : Bool) (f : X → ℤ) (xs : List X) → int_sum_by (λ x. if t then f x else pos 0) xs ≡ (if t then int_sum_by f xs else pos 0)
taken-sum true f xs = refl
taken-sum false f xs = sum-zeros xs

pub times-taken : (t : Bool) (k x : ℤ) → (if t then k *ℤ x else pos 0) ≡ k *ℤ (if t then x else pos 0)
times-taken true k x = refl
times-taken false k x = sym (*ℤ-zero k)

two_differences : (a b c d : ℤ) → (a -ℤ b) *ℤ (c -ℤ d) ≡ a *ℤ c -ℤ b *ℤ c -ℤ (a *ℤ d -ℤ b *ℤ d)
two_differences a b c d =
    times_difference (a -ℤ b) c d ∙ ap (λ z. z -ℤ (a -ℤ b) *ℤ d) (difference_times a b c) ∙ ap (λ z. a *ℤ c -ℤ b *ℤ c -ℤ z) (difference_times a b d)

three_differences : (a b c d e f : ℤ) → (a -ℤ b) *ℤ (c -ℤ d) *ℤ (e -ℤ f)
    ≡ a *ℤ c *ℤ e -ℤ b *ℤ c *ℤ e -ℤ (a *ℤ d *ℤ e -ℤ b *ℤ d *ℤ e) -ℤ (a *ℤ c *ℤ f -ℤ b *ℤ c *ℤ f -ℤ (a *ℤ d *ℤ f -ℤ b *ℤ d *ℤ f))
three_differences a b c d e f =
    ap (λ z. z *ℤ (e -ℤ f)) (two_differences a b c d)
    ∙ times_difference (a *ℤ c -ℤ b *ℤ c -ℤ (a *ℤ d -ℤ b *ℤ d)) e f
    ∙ ap (λ z. z -ℤ (a *ℤ c -ℤ b *ℤ c -ℤ (a *ℤ d -ℤ b *ℤ d)) *ℤ f) (four e)
    ∙ ap (λ z. a *ℤ c *ℤ e -ℤ b *ℤ c *ℤ e -ℤ (a *ℤ d *ℤ e -ℤ b *ℤ d *ℤ e) -ℤ z) (four f)
  where
    four : (k : ℤ) → (a *ℤ c -ℤ b *ℤ c -ℤ (a *ℤ d -ℤ b *ℤ d)) *ℤ k ≡ a *ℤ c *ℤ k -ℤ b *ℤ c *ℤ k -ℤ (a *ℤ d *ℤ k -ℤ b *ℤ d *ℤ k)
    four k =
        difference_times (a *ℤ c -ℤ b *ℤ c) (a *ℤ d -ℤ b *ℤ d) k
        ∙ ap (λ z. z -ℤ (a *ℤ d -ℤ b *ℤ d) *ℤ k) (difference_times (a *ℤ c) (b *ℤ c) k)
        ∙ ap (λ z. a *ℤ c *ℤ k -ℤ b *ℤ c *ℤ k -ℤ z) (difference_times (a *ℤ d) (b *ℤ d) k)

pub signed_products : (dims : ℕ) (b : ℕ → Bool → ℤ) → 1 ≤ dims → dims ≤ 3
    → int_sum_below (2 ^ dims) (λ subset. signed_by subset (int_product_below dims (λ i. b i (is_in_subset i subset)))) ≡ int_product_below dims (λ i. b i false -ℤ b i true)
signed_products zero b some few = absurd (omega arith)
signed_products (suc zero) b some few =
    let first = times_difference (pos 1) (b 0 false) (b 0 true) in
    omega (arith, ints)
signed_products (suc (suc zero)) b some few =
    let first = times_difference (pos 1) (b 0 false) (b 0 true) in
    sums_two (pos 1 *ℤ b 0 false) (pos 1 *ℤ b 0 true) (b 1 false) (b 1 true)
    ∙ ap (λ z. z *ℤ (b 1 false -ℤ b 1 true)) (sym first)
  where
    sums_two : (a b c d : ℤ) → pos 0 +ℤ a *ℤ c +ℤ neg_ℤ (b *ℤ c) +ℤ neg_ℤ (a *ℤ d) +ℤ b *ℤ d ≡ (a -ℤ b) *ℤ (c -ℤ d)
    sums_two a b c d = let whole = two_differences a b c d in omega (arith, ints)
signed_products (suc (suc (suc zero))) b some few =
    let first = times_difference (pos 1) (b 0 false) (b 0 true) in
    sums_three (pos 1 *ℤ b 0 false) (pos 1 *ℤ b 0 true) (b 1 false) (b 1 true) (b 2 false) (b 2 true)
    ∙ ap (λ z. z *ℤ (b 1 false -ℤ b 1 true) *ℤ (b 2 false -ℤ b 2 true)) (sym first)
  where
    sums_three : (a b c d e f : ℤ) → pos 0 +ℤ a *ℤ c *ℤ e +ℤ neg_ℤ (b *ℤ c *ℤ e) +ℤ neg_ℤ (a *ℤ d *ℤ e) +ℤ b *ℤ d *ℤ e +ℤ neg_ℤ (a *ℤ c *ℤ f) +ℤ b *ℤ c *ℤ f +ℤ a *ℤ d *ℤ f +ℤ neg_ℤ (b *ℤ d *ℤ f)
        ≡ (a -ℤ b) *ℤ (c -ℤ d) *ℤ (e -ℤ f)
    sums_three a b c d e f = let whole = three_differences a b c d e f in omega (arith, ints)
signed_products (suc (suc (suc (suc m)))) b some few = absurd (omega arith)
