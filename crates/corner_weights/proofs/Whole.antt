-- Whole numbers: the laws of products, and of sums of products over lists.
use Rattle.std.proofs.Common.{◌≡◌, ℕ, ℤ, pos, neg_ℤ, ◌+ℤ◌, ◌-ℤ◌, ◌*ℤ◌, arith, ◌∙◌, ap, sym}
use Rattle.std.proofs.Math.IntN.{ℤ_ind, suc_ℤ-*ℤ, pred_ℤ-*ℤ, *ℤ_comm, zero-*ℤ, +ℤ_idl, +ℤ_one, -ℤ_one}
use Rattle.std.proofs.lemmas.Int.{ints}

-- ---- products
one_more_times : (m k : ℤ) → (m +ℤ pos 1) *ℤ k ≡ m *ℤ k +ℤ k
one_more_times m k = ap (λ z. z *ℤ k) (+ℤ_one m) ∙ suc_ℤ-*ℤ m k

one_less_times : (m k : ℤ) → (m +ℤ neg_ℤ (pos 1)) *ℤ k ≡ m *ℤ k -ℤ k
one_less_times m k = ap (λ z. z *ℤ k) (-ℤ_one m) ∙ pred_ℤ-*ℤ m k

pub sum_times : (a b k : ℤ) → (a +ℤ b) *ℤ k ≡ a *ℤ k +ℤ b *ℤ k
sum_times a b k = ℤ_ind (λ x. (x +ℤ b) *ℤ k ≡ x *ℤ k +ℤ b *ℤ k) base above below a
  where
    base : (pos 0 +ℤ b) *ℤ k ≡ pos 0 *ℤ k +ℤ b *ℤ k
    base = ap (λ x. x *ℤ k) (+ℤ_idl b) ∙ sym (ap (λ z. z +ℤ b *ℤ k) (zero-*ℤ k) ∙ +ℤ_idl (b *ℤ k))

    above : (n : ℕ) → (pos n +ℤ b) *ℤ k ≡ pos n *ℤ k +ℤ b *ℤ k → (pos n +ℤ pos 1 +ℤ b) *ℤ k ≡ (pos n +ℤ pos 1) *ℤ k +ℤ b *ℤ k
    above n h =
        let order : pos n +ℤ pos 1 +ℤ b ≡ (pos n +ℤ b) +ℤ pos 1 = omega (arith, ints) in
        let first = ap (λ z. z *ℤ k) order ∙ one_more_times (pos n +ℤ b) k in
        let second = one_more_times (pos n) k in
        first ∙ ap (λ z. z +ℤ k) h ∙ swap (pos n *ℤ k) (b *ℤ k) k ∙ ap (λ z. z +ℤ b *ℤ k) (sym second)
      where
        swap : (x y z : ℤ) → x +ℤ y +ℤ z ≡ x +ℤ z +ℤ y
        swap x y z = omega (arith, ints)

    below : (n : ℕ) → (neg_ℤ (pos n) +ℤ b) *ℤ k ≡ neg_ℤ (pos n) *ℤ k +ℤ b *ℤ k → (neg_ℤ (pos n) +ℤ neg_ℤ (pos 1) +ℤ b) *ℤ k ≡ (neg_ℤ (pos n) +ℤ neg_ℤ (pos 1)) *ℤ k +ℤ b *ℤ k
    below n h =
        let order : neg_ℤ (pos n) +ℤ neg_ℤ (pos 1) +ℤ b ≡ (neg_ℤ (pos n) +ℤ b) +ℤ neg_ℤ (pos 1) = omega (arith, ints) in
        let first = ap (λ z. z *ℤ k) order ∙ one_less_times (neg_ℤ (pos n) +ℤ b) k in
        let second = one_less_times (neg_ℤ (pos n)) k in
        first ∙ ap (λ z. z -ℤ k) h ∙ swap (neg_ℤ (pos n) *ℤ k) (b *ℤ k) k ∙ ap (λ z. z +ℤ b *ℤ k) (sym second)
      where
        swap : (x y z : ℤ) → x +ℤ y -ℤ z ≡ x -ℤ z +ℤ y
        swap x y z = omega (arith, ints)

pub times_sum : (k a b : ℤ) → k *ℤ (a +ℤ b) ≡ k *ℤ a +ℤ k *ℤ b
times_sum k a b =
    *ℤ_comm k (a +ℤ b) ∙ sum_times a b k ∙ ap (λ z. z +ℤ b *ℤ k) (*ℤ_comm a k) ∙ ap (λ z. k *ℤ a +ℤ z) (*ℤ_comm b k)

pub opposite_times : (a k : ℤ) → neg_ℤ a *ℤ k ≡ neg_ℤ (a *ℤ k)
opposite_times a k =
    let nothing : a +ℤ neg_ℤ a ≡ pos 0 = omega (arith, ints) in
    let both = sym (sum_times a (neg_ℤ a) k) ∙ ap (λ z. z *ℤ k) nothing ∙ zero-*ℤ k in
    from_zero (a *ℤ k) (neg_ℤ a *ℤ k) both
  where
    from_zero : (x y : ℤ) → x +ℤ y ≡ pos 0 → y ≡ neg_ℤ x
    from_zero x y e = omega (arith, ints)

pub times_opposite : (k a : ℤ) → k *ℤ neg_ℤ a ≡ neg_ℤ (k *ℤ a)
times_opposite k a = *ℤ_comm k (neg_ℤ a) ∙ opposite_times a k ∙ ap neg_ℤ (*ℤ_comm a k)

pub difference_times : (a b k : ℤ) → (a -ℤ b) *ℤ k ≡ a *ℤ k -ℤ b *ℤ k
difference_times a b k = sum_times a (neg_ℤ b) k ∙ ap (λ z. a *ℤ k +ℤ z) (opposite_times b k)

pub times_difference : (k a b : ℤ) → k *ℤ (a -ℤ b) ≡ k *ℤ a -ℤ k *ℤ b
times_difference k a b = times_sum k a (neg_ℤ b) ∙ ap (λ z. k *ℤ a +ℤ z) (times_opposite k b)

pub times_assoc : (a b k : ℤ) → a *ℤ b *ℤ k ≡ a *ℤ (b *ℤ k)
times_assoc a b k = ℤ_ind (λ x. x *ℤ b *ℤ k ≡ x *ℤ (b *ℤ k)) base above below a
  where
    base : pos 0 *ℤ b *ℤ k ≡ pos 0 *ℤ (b *ℤ k)
    base = ap (λ z. z *ℤ k) (zero-*ℤ b) ∙ zero-*ℤ k ∙ sym (zero-*ℤ (b *ℤ k))

    above : (n : ℕ) → pos n *ℤ b *ℤ k ≡ pos n *ℤ (b *ℤ k) → (pos n +ℤ pos 1) *ℤ b *ℤ k ≡ (pos n +ℤ pos 1) *ℤ (b *ℤ k)
    above n h =
        ap (λ z. z *ℤ k) (one_more_times (pos n) b) ∙ sum_times (pos n *ℤ b) b k ∙ ap (λ z. z +ℤ b *ℤ k) h ∙ sym (one_more_times (pos n) (b *ℤ k))

    below : (n : ℕ) → neg_ℤ (pos n) *ℤ b *ℤ k ≡ neg_ℤ (pos n) *ℤ (b *ℤ k) → (neg_ℤ (pos n) +ℤ neg_ℤ (pos 1)) *ℤ b *ℤ k ≡ (neg_ℤ (pos n) +ℤ neg_ℤ (pos 1)) *ℤ (b *ℤ k)
    below n h =
        ap (λ z. z *ℤ k) (one_less_times (neg_ℤ (pos n)) b) ∙ difference_times (neg_ℤ (pos n) *ℤ b) b k ∙ ap (λ z. z -ℤ b *ℤ k) h ∙ sym (one_less_times (neg_ℤ (pos n)) (b *ℤ k))

-- the second and third factor change places
pub times_swap : (a b k : ℤ) → a *ℤ b *ℤ k ≡ a *ℤ k *ℤ b
times_swap a b k = times_assoc a b k ∙ ap (λ z. a *ℤ z) (*ℤ_comm b k) ∙ sym (times_assoc a k b)

-- two products of two
pub times_four : (a b c d : ℤ) → a *ℤ b *ℤ (c *ℤ d) ≡ a *ℤ c *ℤ (b *ℤ d)
times_four a b c d =
    sym (times_assoc (a *ℤ b) c d) ∙ ap (λ z. z *ℤ d) (times_swap a b c) ∙ times_assoc (a *ℤ c) b d
