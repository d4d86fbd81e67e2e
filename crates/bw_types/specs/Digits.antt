-- How many digits numbers have.
use Rattle.std.specs.Prelude.{◌≡◌, ℕ, ◌+◌, ◌/◌, ◌^◌, ◌<◌, ◌≤◌, ◌==◌, length, if◌then◌else◌}
use Rattle.std.specs.Int.Digits.{digits_of}

-- how many digits a number has in base b: 0 has none
unfoldable pub digit_count : ℕ → ℕ → ℕ
digit_count b n = length (digits_of b n)

-- a number has one digit more than its quotient by the base
abbrev pub DigitsUnfold : Type 0
DigitsUnfold = (b n : ℕ) → 2 ≤ b → digit_count b n ≡ (if n == 0 then 0 else 1 + digit_count b (n / b))

-- a greater number has no fewer digits
abbrev pub DigitsGrow : Type 0
DigitsGrow = (b m n : ℕ) → 2 ≤ b → m ≤ n → digit_count b m ≤ digit_count b n

-- a number from b^k on has more than k digits
abbrev pub PowersHaveDigits : Type 0
PowersHaveDigits = (b k n : ℕ) → 2 ≤ b → b ^ k ≤ n → k + 1 ≤ digit_count b n

-- a number below b^k has at most k digits
abbrev pub DigitsAreFew : Type 0
DigitsAreFew = (b k n : ℕ) → 2 ≤ b → n < b ^ k → digit_count b n ≤ k

-- a number is below the power of the base of as many digits as it has
abbrev pub DigitsReach : Type 0
DigitsReach = (b n : ℕ) → 2 ≤ b → n < b ^ digit_count b n
