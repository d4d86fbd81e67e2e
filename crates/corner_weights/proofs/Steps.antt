-- The steps of loops that multiply and add residues: the residue of the product or sum so far.
use Rattle.std.proofs.Common.{List, zero, suc, inl, inr, ◌/◌, neg_ℤ, [], ◌∷◌, ◌++◌, length, get_or, take, add-one, ◌≡◌, ℕ, ◌+◌, ◌*◌, ◌%◌, ◌^◌, ◌<◌, ℤ, pos, ◌+ℤ◌, ◌*ℤ◌, arith, refl, ◌∙◌, ap, sym}
use Rattle.std.proofs.lemmas.Nat.{mul-mod_first}
use Rattle.std.proofs.lemmas.Int.{ints}
use Rattle.std.proofs.lemmas.List.{take_more}
use Rattle.std.specs.Int.{int_pow}
use Rattle.std.proofs.lemmas.Bool.{cases_lt, ne_eqb, eq-eqb}
use Rattle.std.proofs.Math.IntN.{zero-*ℤ, *ℤ-zero}
use Rattle.bw_types.specs.Residues.{residue, opposite_residue}
use Rattle.bw_types.specs.ResidueLaws.{residue_of_sum, residue_of_product, residue_of_natural, residue_of_small, residue_of_opposite}
use Rattle.bw_types.specs.Tally.{int_product_below, int_sum_by}
use Rattle.corner_weights.specs.Planes.{primitive, coefficient}
use Rattle.corner_weights.proofs.Bounds.{quotient_small}

-- one factor more
pub product_step : (f : ℕ → ℤ) (i product factor next : ℕ) → product ≡ residue (int_product_below i f) → factor ≡ residue (f i) → next ≡ product * factor % 2 ^ 128 → next ≡ residue (int_product_below (i + 1) f)
product_step f i product factor next so_far at now =
    now ∙ ap (λ p. p * factor % 2 ^ 128) so_far ∙ ap (λ x. residue (int_product_below i f) * x % 2 ^ 128) at
    ∙ sym (residue_of_product (int_product_below i f) (f i)) ∙ rw (add-one i) refl

pub int_sum_by-push : {X : Type 0} (f : X → ℤ) (xs : List X) (x : X) → int_sum_by f (xs ++ x ∷ []) ≡ int_sum_by f xs +ℤ f x
int_sum_by-push f [] x = omega (arith, ints)
int_sum_by-push f (y ∷ ys) x = let rest = int_sum_by-push f ys x in omega (arith, ints)

-- one term more
pub sum_step : {X : Type 0} (f : X → ℤ) (xs : List X) (i : ℕ) (d : X) (total term next : ℕ) → i < length xs → total ≡ residue (int_sum_by f (take i xs)) → term ≡ residue (f (get_or xs i d)) → next ≡ (total + term) % 2 ^ 128 → next ≡ residue (int_sum_by f (take (i + 1) xs))
sum_step f xs i d total term next lt so_far at now =
    now ∙ ap (λ t. (t + term) % 2 ^ 128) so_far ∙ ap (λ t. (residue (int_sum_by f (take i xs)) + t) % 2 ^ 128) at
    ∙ sym (residue_of_sum (int_sum_by f (take i xs)) (f (get_or xs i d)))
    ∙ ap residue (sym (ap (int_sum_by f) (take_more xs i d lt) ∙ int_sum_by-push f (take i xs) (get_or xs i d)))

-- the residue of a product with a number from 0 on
pub residue_of_times : (w : ℕ) (x : ℤ) → residue (pos w *ℤ x) ≡ w * residue x % 2 ^ 128
residue_of_times w x = residue_of_product (pos w) x ∙ ap (λ a. a * residue x % 2 ^ 128) (residue_of_natural w) ∙ mul-mod_first w (residue x) (2 ^ 128)

-- a product of two residues
pub scaled : (c x : ℤ) (a b product : ℕ) → a ≡ residue c → b ≡ residue x → product ≡ a * b % 2 ^ 128 → product ≡ residue (c *ℤ x)
scaled c x a b product first second now =
    now ∙ ap (λ n. n * b % 2 ^ 128) first ∙ ap (λ n. residue c * n % 2 ^ 128) second ∙ sym (residue_of_product c x)

-- the coefficients of a polynomial primitive e x - primitive e c
pub coefficient-constant : (e f : ℕ) (c : ℤ) → f ≡ 0 → coefficient e f c ≡ neg_ℤ (primitive e c)
coefficient-constant e f c h = rw h refl

pub coefficient-highest : (e f : ℕ) (c : ℤ) → f ≡ e + 1 → coefficient e f c ≡ pos (6 / (e + 1))
coefficient-highest e f c h = let ne : f ≡ 0 → ⊥ = λ z. omega arith in rw (ne_eqb f 0 ne, eq-eqb f (e + 1) h) refl

pub constant_is : (e f : ℕ) (c : ℤ) (at_corner result : ℕ) → f ≡ 0 → at_corner ≡ residue (primitive e c) → result ≡ opposite_residue at_corner
    → result ≡ residue (coefficient e f c)
constant_is e f c at_corner result low is_there now =
    now ∙ ap opposite_residue is_there ∙ sym (residue_of_opposite (primitive e c)) ∙ ap residue (sym (coefficient-constant e f c low))

-- the primitive from the power
pub primitive_is : (e : ℕ) (c : ℤ) (scale power product : ℕ) → scale ≡ 6 / (e + 1) → power ≡ residue (int_pow c (e + 1)) → product ≡ scale * power % 2 ^ 128 → product ≡ residue (primitive e c)
primitive_is e c scale power product is_scale is_power is_product =
    is_product ∙ ap (λ s. s * power % 2 ^ 128) is_scale ∙ ap (λ p. 6 / (e + 1) * p % 2 ^ 128) is_power ∙ sym (residue_of_times (6 / (e + 1)) (int_pow c (e + 1)))

-- a product with a factor 0 is 0
pub product-zero : (n i : ℕ) (f : ℕ → ℤ) → i < n → f i ≡ pos 0 → int_product_below n f ≡ pos 0
product-zero zero i f lt z = absurd (omega arith)
product-zero (suc n) i f lt z = elim (cases_lt i n) [
  | inl below ↦ ap (λ x. x *ℤ f n) (product-zero n i f below z) ∙ zero-*ℤ (f n)
  | inr above ↦ (let e : i ≡ n = omega arith in ap (λ x. int_product_below n f *ℤ x) (sym (ap f e) ∙ z) ∙ *ℤ-zero (int_product_below n f))
]

pub highest_is : (e f : ℕ) (c : ℤ) (scale : ℕ) → f ≡ e + 1 → scale ≡ 6 / (e + 1) → scale ≡ residue (coefficient e f c)
highest_is e f c scale high is_scale =
    is_scale ∙ sym (residue_of_small (6 / (e + 1)) (omega (arith, quotient_small e))) ∙ ap residue (sym (coefficient-highest e f c high))
