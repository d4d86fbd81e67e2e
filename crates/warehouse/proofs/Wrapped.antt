-- Products and sums that are taken modulo 2^128 on the way are those of the whole, modulo 2^128.
use Rattle.std.proofs.Common.{◌≡◌, ℕ, zero, suc, ◌+◌, ◌*◌, ◌%◌, ◌^◌, ◌<◌, List, [], ◌∷◌, length, get_or, ℤ, pos, ◌+ℤ◌, ◌*ℤ◌, refl, sym, ◌∙◌, ap, arith, add-one, to_z, of_z, FitsSigned}
use Rattle.std.proofs.lemmas.Int.{ints, wrapping_mul_onto, wrapping_add_onto, int_wrap-mul_left, int_wrap-add_left, int_wrap-add_right}
use Rattle.std.specs.Int.{int_wrap, w128}
use Rattle.std.specs.List.{zip}
use Rattle.bw_types.specs.Tally.{int_product_below, int_sum_by}

-- one factor more
pub product_step : (f : ℕ → ℤ) (i bits : ℕ) (b : ℤ) → bits < 2 ^ 128 → FitsSigned w128 b → to_z w128 bits ≡ int_wrap w128 (int_product_below i f) → b ≡ f i
    → to_z w128 ((bits * of_z w128 b) % 2 ^ 128) ≡ int_wrap w128 (int_product_below (i + 1) f)
product_step f i bits b fits small so_far at =
    wrapping_mul_onto w128 bits b fits small
    ∙ ap (λ x. int_wrap w128 (x *ℤ b)) so_far
    ∙ int_wrap-mul_left w128 (int_product_below i f) b
    ∙ rw (at, add-one i) refl

-- one term more, that was itself taken modulo 2^128
pub sum_step : (s t total : ℤ) (bits : ℕ) (b : ℤ) → bits < 2 ^ 128 → FitsSigned w128 b → to_z w128 bits ≡ int_wrap w128 s → b ≡ int_wrap w128 t → total ≡ s +ℤ t
    → to_z w128 ((bits + of_z w128 b) % 2 ^ 128) ≡ int_wrap w128 total
sum_step s t total bits b fits small so_far at is =
    wrapping_add_onto w128 bits b fits small
    ∙ ap (λ x. int_wrap w128 (x +ℤ b)) so_far
    ∙ int_wrap-add_left w128 s b
    ∙ ap (λ x. int_wrap w128 (s +ℤ x)) at
    ∙ int_wrap-add_right w128 s t
    ∙ ap (int_wrap w128) (sym is)

-- the sum of the signed f i over the numbers i below n
abbrev pub int_sum_below : ℕ → (ℕ → ℤ) → ℤ
int_sum_below zero f = pos 0
int_sum_below (suc n) f = int_sum_below n f +ℤ f n

pub int_sum_below-front : (n : ℕ) (f : ℕ → ℤ) → int_sum_below (suc n) f ≡ f 0 +ℤ int_sum_below n (λ k. f (suc k))
int_sum_below-front zero f = omega (arith, ints)
int_sum_below-front (suc n) f = let e = int_sum_below-front n f in omega (arith, ints, e)

int_sum_by-zip-nil : {X Y : Type 0} (f : X × Y → ℤ) (xs : List X) → int_sum_by f (zip xs []) ≡ pos 0
int_sum_by-zip-nil f [] = refl
int_sum_by-zip-nil f (x ∷ xs) = refl

pub int_sum_below-zero : (n : ℕ) (g : ℕ → ℤ) → ((k : ℕ) → g k ≡ pos 0) → int_sum_below n g ≡ pos 0
int_sum_below-zero zero g h = refl
int_sum_below-zero (suc n) g h = rw (int_sum_below-zero n g h, h n) refl

-- a sum over two lists side by side, where the first may end early, as if by numbers that give 0
pub int_sum_by-zip : {X Y : Type 0} (f : X × Y → ℤ) (xs : List X) (ys : List Y) (a : X) (b : Y) (n : ℕ) → length ys ≡ n → ((y : Y) → f (a, y) ≡ pos 0)
    → int_sum_by f (zip xs ys) ≡ int_sum_below n (λ k. f (get_or xs k a, get_or ys k b))
int_sum_by-zip f xs [] a b zero e z = int_sum_by-zip-nil f xs
int_sum_by-zip f xs [] a b (suc n) e z = absurd (omega arith)
int_sum_by-zip f [] (y ∷ ys) a b n e z = sym (int_sum_below-zero n (λ k. f (a, get_or (y ∷ ys) k b)) (λ k. z (get_or (y ∷ ys) k b)))
int_sum_by-zip f (x ∷ xs) (y ∷ ys) a b zero e z = absurd (omega arith)
int_sum_by-zip f (x ∷ xs) (y ∷ ys) a b (suc n) e z =
    ap (λ r. f (x, y) +ℤ r) (int_sum_by-zip f xs ys a b n (omega arith) z)
    ∙ sym (int_sum_below-front n (λ k. f (get_or (x ∷ xs) k a, get_or (y ∷ ys) k b)))
