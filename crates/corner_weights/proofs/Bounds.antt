-- Bounds on the powers and products that a reach is made of.
use Rattle.std.proofs.Common.{ℕ, zero, suc, ◌+◌, ◌*◌, ◌/◌, ◌%◌, ◌^◌, ◌<◌, ◌≤◌, ◌==◌, Bool, true, false, if◌then◌else◌, ℤ, pos, negsuc, neg_ℤ, ◌-ℤ◌, FitsSigned, unsigned_abs, ◌≡◌, ◌∙◌, sym, subst, to_z, of_z, arith, lit<}
use Rattle.std.specs.Int.{w128, int_pow}
use Rattle.std.proofs.lemmas.Int.{ints, to_z-of_z}
use Rattle.std.proofs.Math.Nat.{div-le_self, pow-le-pow_left, pow-le-pow_right, mul-le-mul_left, mul-le-mul_right}

-- a stored number to a power of at most 3
pub power_fits : (x e : ℕ) → x < 2 ^ 32 → e ≤ 2 → x ^ (e + 1) ≤ 2 ^ 96
power_fits x e h small =
    let base : x ^ (e + 1) ≤ (2 ^ 32) ^ (e + 1) = pow-le-pow_left (omega arith) (e + 1) in
    let top : (2 ^ 32) ^ (e + 1) ≤ (2 ^ 32) ^ 3 = pow-le-pow_right (lit< tt) {j = 3} (omega arith) in
    omega arith

-- at most 6 times two of them
pub reach_fits : (m a b : ℕ) → m ≤ 6 → a ≤ 2 ^ 96 → b ≤ 2 ^ 96 → m * (a + b) < 2 ^ 128
reach_fits m a b hm ha hb =
    let left : m * (a + b) ≤ m * (2 ^ 97) = mul-le-mul_left m (omega arith) in
    let right : m * (2 ^ 97) ≤ 6 * (2 ^ 97) = mul-le-mul_right (2 ^ 97) hm in
    omega arith

-- a base of at most 4 to a power of at most 3
pub small_power : (b e : ℕ) → b ≤ 4 → e ≤ 3 → b ^ e ≤ 64
small_power b e hb he =
    let base : b ^ e ≤ 4 ^ e = pow-le-pow_left hb e in
    let top : 4 ^ e ≤ 64 = pow-le-pow_right (lit< tt) {j = 3} he in
    omega arith

pub quotient_small : (e : ℕ) → 6 / (e + 1) ≤ 6
quotient_small e = div-le_self 6 (e + 1)

-- a whole number of a size of at most 2^32 to a power of at most 3
power_below : (a e : ℕ) → a ≤ 2 ^ 32 → e ≤ 3 → a ^ e ≤ 2 ^ 96
power_below a e h small =
    let base : a ^ e ≤ (2 ^ 32) ^ e = pow-le-pow_left h e in
    let top : (2 ^ 32) ^ e ≤ (2 ^ 32) ^ 3 = pow-le-pow_right (lit< tt) {j = 3} small in
    omega arith

positive_fits : (n : ℕ) → n ≤ 2 ^ 96 → FitsSigned w128 (pos n)
positive_fits n h = record { sfits = omega arith }

negative_fits : (n : ℕ) → n ≤ 2 ^ 96 → FitsSigned w128 (neg_ℤ (pos n))
negative_fits zero h = record { sfits = lit< tt }
negative_fits (suc n) h = record { sfits = omega arith }

either_fits : (b : Bool) (n : ℕ) → n ≤ 2 ^ 96 → FitsSigned w128 (if b then pos n else neg_ℤ (pos n))
either_fits true n h = positive_fits n h
either_fits false n h = negative_fits n h

pub signed_power_fits : (x : ℤ) (e : ℕ) → unsigned_abs x ≤ 2 ^ 32 → e ≤ 3 → FitsSigned w128 (int_pow x e)
signed_power_fits (pos a) e h small = positive_fits (a ^ e) (power_below a e h small)
signed_power_fits (negsuc a) e h small = either_fits (e % 2 == 0) (suc a ^ e) (power_below (suc a) e h small)

-- the difference of two stored numbers
pub difference_small : (a b : ℕ) → a < 2 ^ 32 → b < 2 ^ 32 → unsigned_abs (pos a -ℤ pos b) ≤ 2 ^ 32
difference_small a b ha hb = omega (arith, ints)

-- the power of a difference that a call gave
pub power_of_result_fits : (x y : ℤ) (e : ℕ) → x ≡ y → unsigned_abs y ≤ 2 ^ 32 → e ≤ 3 → FitsSigned w128 x → FitsSigned w128 (int_pow (to_z w128 (of_z w128 x)) e)
power_of_result_fits x y e same small h fits =
    let P : ℤ → Type 0 = λ z. FitsSigned w128 (int_pow z e) in
    subst P (sym (to_z-of_z w128 x fits ∙ same)) (signed_power_fits y e small h)
