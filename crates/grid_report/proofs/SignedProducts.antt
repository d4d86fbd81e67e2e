-- Whole numbers: sums times a number, and products of three. A number is read as how far it is up, less how far it is down.
use Rattle.std.proofs.Common.{◌≡◌, ℕ, ◌+◌, ◌*◌, ℤ, ◌+ℤ◌, ◌*ℤ◌, arith, ◌∙◌, ap, ap₂}
use Rattle.std.proofs.Math.IntN.{*ℤ_comm}
use Rattle.std.proofs.lemmas.Int.{ints}
use borrow.Author.Differences.{up, down, product_is}

-- both sides times a number
times : (k m n : ℕ) → m ≡ n → m * k ≡ n * k
times k m n e = ap (λ x. x * k) e

pub sum_times : (a b k : ℤ) → (a +ℤ b) *ℤ k ≡ a *ℤ k +ℤ b *ℤ k
sum_times a b k =
    let sum : up (a +ℤ b) + (down a + down b) ≡ down (a +ℤ b) + (up a + up b) = omega (arith, ints) in
    omega (arith, ints, times (up k) _ _ sum, times (down k) _ _ sum)

pub times_sum : (k a b : ℤ) → k *ℤ (a +ℤ b) ≡ k *ℤ a +ℤ k *ℤ b
times_sum k a b = *ℤ_comm k (a +ℤ b) ∙ sum_times a b k ∙ ap₂ ◌+ℤ◌ (*ℤ_comm a k) (*ℤ_comm b k)

pub times_assoc : (a b k : ℤ) → a *ℤ b *ℤ k ≡ a *ℤ (b *ℤ k)
times_assoc a b k =
    let first = product_is a b in
    let last = product_is b k in
    omega (arith, ints, times (up k) _ _ first.0, times (down k) _ _ first.0, times (up k) _ _ first.1, times (down k) _ _ first.1, times (up a) _ _ last.0, times (down a) _ _ last.0, times (up a) _ _ last.1, times (down a) _ _ last.1)
