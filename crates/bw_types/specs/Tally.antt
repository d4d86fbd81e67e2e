-- Tests, sums and products over the numbers below n, and over lists.
use Rattle.std.specs.Prelude.{ℕ, zero, suc, ◌*◌, Bool, true, ◌&&◌, List, [], ◌∷◌, ℤ, pos, ◌+ℤ◌, ◌*ℤ◌}

-- the test holds of each number below n
abbrev pub each_below : ℕ → (ℕ → Bool) → Bool
each_below zero p = true
each_below (suc n) p = each_below n p && p n

-- the product of f i over the numbers i below n
abbrev pub product_below : ℕ → (ℕ → ℕ) → ℕ
product_below zero f = 1
product_below (suc n) f = product_below n f * f n

-- the product of the signed f i over the numbers i below n
abbrev pub int_product_below : ℕ → (ℕ → ℤ) → ℤ
int_product_below zero f = pos 1
int_product_below (suc n) f = int_product_below n f *ℤ f n

-- the sum of the signed f x over the list
abbrev pub int_sum_by : {X : Type 0} → (X → ℤ) → List X → ℤ
int_sum_by f [] = pos 0
int_sum_by f (x ∷ xs) = f x +ℤ int_sum_by f xs
