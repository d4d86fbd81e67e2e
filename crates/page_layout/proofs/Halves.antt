-- A number of sixteen bytes in two halves.
use Rattle.std.proofs.Common.{◌≡◌, ℕ, ◌/◌, ◌%◌, ◌^◌, ◌++◌, arith}
use Rattle.std.proofs.Math.Nat.{div-div-eq-div-mul}
use Rattle.page_layout.specs.Numbers.{spelled}

-- The bytes of the high half are the high ones of the number, and those of the low half the low ones.
pub halves : (x : ℕ) → spelled 16 x ≡ spelled 8 (x / 2 ^ 64) ++ spelled 8 (x % 2 ^ 64)
unfolding spelled
halves x =
    let low7 : x % 2 ^ 64 / 256 ^ 7 % 256 ≡ x / 256 ^ 7 % 256 = omega arith in
    let low6 : x % 2 ^ 64 / 256 ^ 6 % 256 ≡ x / 256 ^ 6 % 256 = omega arith in
    let low5 : x % 2 ^ 64 / 256 ^ 5 % 256 ≡ x / 256 ^ 5 % 256 = omega arith in
    let low4 : x % 2 ^ 64 / 256 ^ 4 % 256 ≡ x / 256 ^ 4 % 256 = omega arith in
    let low3 : x % 2 ^ 64 / 256 ^ 3 % 256 ≡ x / 256 ^ 3 % 256 = omega arith in
    let low2 : x % 2 ^ 64 / 256 ^ 2 % 256 ≡ x / 256 ^ 2 % 256 = omega arith in
    let low1 : x % 2 ^ 64 / 256 ^ 1 % 256 ≡ x / 256 ^ 1 % 256 = omega arith in
    let low0 : x % 2 ^ 64 % 256 ≡ x % 256 = omega arith in
    simp (div-div-eq-div-mul, low7, low6, low5, low4, low3, low2, low1, low0)
