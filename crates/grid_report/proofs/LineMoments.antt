-- One dimension: the moments from each line to the next add up to the moment from the first line to the last one.
use Rattle.std.proofs.Common.{◌≡◌, ℕ, zero, suc, ◌+◌, ◌/◌, ◌≤◌, Bool, true, false, if◌then◌else◌, int_lt, ℤ, pos, ◌-ℤ◌, ◌*ℤ◌, ◌≤ℤ◌, arith, refl, ◌∙◌, ap, sym}
use Rattle.std.proofs.Math.IntN.{*ℤ-zero}
use Rattle.std.proofs.lemmas.Int.{ints, by_lt_z}
use Rattle.std.specs.Int.{int_pow, int_max, int_min}
use Rattle.std.specs.List.{range_with_len}
use Rattle.bw_types.specs.Tally.{int_sum_by}
use Rattle.bw_types.specs.Integral.{moment}
use Rattle.grid_report.proofs.SignedSums.{sum-same, sum-of_multiples}

-- how much f grows from a to b, or 0 where a is not below b
abbrev growth : (ℤ → ℤ) → ℤ → ℤ → ℤ
growth f a b = if int_lt a b then f b -ℤ f a else pos 0

-- a moment is a multiple of the growth of a power
moment-is : (e : ℕ) (a b : ℤ) → moment e a b ≡ pos (6 / (e + 1)) *ℤ growth (λ x. int_pow x (e + 1)) a b
moment-is e a b = by_test (int_lt a b)
  where
    by_test : (t : Bool) → (if t then pos (6 / (e + 1)) *ℤ (int_pow b (e + 1) -ℤ int_pow a (e + 1)) else pos 0) ≡ pos (6 / (e + 1)) *ℤ (if t then int_pow b (e + 1) -ℤ int_pow a (e + 1) else pos 0)
    by_test true = refl
    by_test false = sym (*ℤ-zero (pos (6 / (e + 1))))

growth-none : (f : ℤ → ℤ) (a b : ℤ) → b ≤ℤ a → growth f a b ≡ pos 0
growth-none f a b h = grind (arith, ints)

growth-some : (f : ℤ → ℤ) (a b : ℤ) → a ≤ℤ b → growth f a b ≡ f b -ℤ f a
growth-some f a b h = by_lt_z a b (λ below. grind (arith, ints)) (λ from. let same : a ≡ b = omega (arith, ints) in rw same (grind (arith, ints)))

max-first : (a b : ℤ) → b ≤ℤ a → int_max a b ≡ a
max-first a b h = grind (arith, ints)

max-second : (a b : ℤ) → a ≤ℤ b → int_max a b ≡ b
max-second a b h = grind (arith, ints)

min-first : (a b : ℤ) → a ≤ℤ b → int_min a b ≡ a
min-first a b h = grind (arith, ints)

min-second : (a b : ℤ) → b ≤ℤ a → int_min a b ≡ b
min-second a b h = grind (arith, ints)

min-most : (a b : ℤ) → int_min a b ≤ℤ b
min-most a b = grind (arith, ints)

min-least : (x a b : ℤ) → x ≤ℤ a → x ≤ℤ b → x ≤ℤ int_min a b
min-least x a b h l = grind (arith, ints)

-- From a to b, within low and high: what lies below b, less what lies below a.
growth-within : (f : ℤ → ℤ) (low high a b : ℤ) → a ≤ℤ b
    → growth f (int_max low a) (int_min high b) ≡ growth f low (int_min high b) -ℤ growth f low (int_min high a)
growth-within f low high a b h =
    let top = int_min high b in
    by_lt_z a low (λ before.
    let short : int_min high a ≤ℤ low = omega (arith, ints, min-most high a) in
    rw (max-first low a (omega (arith, ints)), growth-none f low (int_min high a) short) (omega (arith, ints))) (λ from.
    by_lt_z a high (λ inside.
    let least : a ≤ℤ top = min-least a high b (omega (arith, ints)) h in
    rw (max-second low a from, min-second high a (omega (arith, ints)), growth-some f a top least, growth-some f low top (omega (arith, ints)), growth-some f low a from) (omega (arith, ints))) (λ past.
    rw (max-second low a from, min-first high a past, min-first high b (omega (arith, ints)), growth-none f a high past) (omega (arith, ints))))

-- the growths from line to line, from line s on: what lies below the last of them, less what lies below line s
growths-add_up : (f : ℤ → ℤ) (low high : ℤ) (line : ℕ → ℤ) → ((a b : ℕ) → a ≤ b → line a ≤ℤ line b) → (s n : ℕ)
    → int_sum_by (λ j. growth f (int_max low (line j)) (int_min high (line (j + 1)))) (range_with_len s n) ≡ growth f low (int_min high (line (s + n))) -ℤ growth f low (int_min high (line s))
growths-add_up f low high line ascend s zero = let none : s + 0 ≡ s = omega arith in rw none (omega (arith, ints))
growths-add_up f low high line ascend s (suc n) =
    let more : s + suc n ≡ s + 1 + n = omega arith in
    let first = growth-within f low high (line s) (line (s + 1)) (ascend s (s + 1) (omega arith)) in
    let rest = growths-add_up f low high line ascend (s + 1) n in
    rw more (omega (arith, ints, first, rest))

pub moments-add_up : (e : ℕ) (low high : ℤ) (line : ℕ → ℤ) → ((a b : ℕ) → a ≤ b → line a ≤ℤ line b) → (n : ℕ)
    → int_sum_by (λ j. moment e (int_max low (line j)) (int_min high (line (j + 1)))) (range_with_len 0 n) ≡ moment e (int_max low (line 0)) (int_min high (line n))
moments-add_up e low high line ascend n =
    let f : ℤ → ℤ = λ x. int_pow x (e + 1) in
    let part : ℕ → ℤ = λ j. growth f (int_max low (line j)) (int_min high (line (j + 1))) in
    let all : 0 + n ≡ n = omega arith in
    sum-same (λ j. moment e (int_max low (line j)) (int_min high (line (j + 1)))) (λ j. pos (6 / (e + 1)) *ℤ part j) (λ j. moment-is e (int_max low (line j)) (int_min high (line (j + 1)))) (range_with_len 0 n)
    ∙ sum-of_multiples (pos (6 / (e + 1))) part (range_with_len 0 n)
    ∙ ap (λ z. pos (6 / (e + 1)) *ℤ z) (growths-add_up f low high line ascend 0 n ∙ ap (λ k. growth f low (int_min high (line k)) -ℤ growth f low (int_min high (line 0))) all ∙ sym (growth-within f low high (line 0) (line n) (ascend 0 n (omega arith))))
    ∙ sym (moment-is e (int_max low (line 0)) (int_min high (line n)))
