-- Products of numbers of 32 bits, and of numbers from 1 on.
use Rattle.std.proofs.Common.{◌≡◌, ℕ, zero, suc, ◌+◌, ◌*◌, ◌^◌, ◌<◌, ◌≤◌, refl, ap₂, inl, inr, add-one, arith, lit<}
use Rattle.std.proofs.Math.Nat.{mul-le-mul_left, mul-le-mul_right, pow-le-pow_right, pow-suc, pow-zero}
use Rattle.std.proofs.lemmas.Bool.{cases_lt}
use Rattle.std.proofs.lemmas.Nat.{mul-le}
use Rattle.bw_types.specs.Tally.{product_below}

pub one-more : (n : ℕ) (f : ℕ → ℕ) → product_below (n + 1) f ≡ product_below n f * f n
one-more n f = rw add-one refl

-- a product of numbers from 1 on is one
pub product-some : (f : ℕ → ℕ) (n : ℕ) → ((k : ℕ) → k < n → 1 ≤ f k) → 1 ≤ product_below n f
product-some f zero h = omega arith
product-some f (suc n) h = mul-le 1 1 (product_below n f) (f n) (product-some f n (λ k lt. h k (omega arith))) (h n (omega arith))

-- the product of the first factors is no greater than that of more
pub product-grows : (f : ℕ → ℕ) (n : ℕ) → ((k : ℕ) → k < n → 1 ≤ f k) → (i : ℕ) → i ≤ n → product_below i f ≤ product_below n f
product-grows f zero h zero le = omega arith
product-grows f zero h (suc i) le = absurd (omega arith)
product-grows f (suc n) h i le =
    elim (cases_lt n i) [
      | inl all ↦ let e : i ≡ suc n = omega arith in rw e (omega arith)
      | inr some ↦
          let before = product-grows f n (λ k lt. h k (omega arith)) i some in
          let once = mul-le-mul_left (product_below n f) (h n (omega arith)) in
          omega (arith, before, once)
    ]

-- greater factors have a greater product
pub product-order : (f g : ℕ → ℕ) (n : ℕ) → ((k : ℕ) → f k ≤ g k) → product_below n f ≤ product_below n g
product-order f g zero h = omega arith
product-order f g (suc n) h = mul-le (product_below n f) (f n) (product_below n g) (g n) (product-order f g n h) (h n)

pub product-same : (f g : ℕ → ℕ) (n : ℕ) → ((k : ℕ) → k < n → f k ≡ g k) → product_below n f ≡ product_below n g
product-same f g zero h = refl
product-same f g (suc n) h = ap₂ (λ a b. a * b) (product-same f g n (λ k lt. h k (omega arith))) (h n (omega arith))

-- no factor is greater than the product
pub product-holds : (f : ℕ → ℕ) (n : ℕ) → ((k : ℕ) → k < n → 1 ≤ f k) → (i : ℕ) → i < n → f i ≤ product_below n f
product-holds f n h i lt =
    let some = mul-le-mul_right (f i) (product-some f i (λ k below. h k (omega arith))) in
    let all = product-grows f n h (i + 1) (omega arith) in
    omega (arith, one-more i f, some, all)

-- a product of so many numbers is at most that power of the greatest that they may be
product-most : (f : ℕ → ℕ) (most : ℕ) → ((k : ℕ) → f k ≤ most) → (n : ℕ) → product_below n f ≤ most ^ n
product-most f most h zero = let one = pow-zero most in omega arith
product-most f most h (suc n) = rw pow-suc (mul-le (product_below n f) (f n) (most ^ n) most (product-most f most h n) (h n))

-- that of three numbers of 32 bits at most has 96 bits
pub product-fits : (f : ℕ → ℕ) → ((k : ℕ) → f k < 2 ^ 32) → (n : ℕ) → n ≤ 3 → product_below n f ≤ 2 ^ 96
product-fits f h n few =
    let most = product-most f (2 ^ 32) (λ k. let below = h k in omega arith) n in
    let power : (2 ^ 32) ^ n ≤ (2 ^ 32) ^ 3 = pow-le-pow_right (lit< tt) few in
    omega (arith, most, power)
