-- Counts that are kept in 64 bits: they rise by one, and stand still at their last value.
use Rattle.std.specs.Prelude.{◌≡◌, ℕ, ◌+◌, ◌-◌, ◌^◌, ◌≤◌, min, Result, MatchResult}

-- the last value of a count
abbrev pub last_count : ℕ
last_count = 2 ^ 64 - 1

-- the count after one more
abbrev pub raised : ℕ → ℕ
raised count = min (count + 1) last_count

-- From the one moment to the other the count rose, or it stands at its last value, where none can be seen to rise.
abbrev pub Rose : ℕ → ℕ → Type 0
Rose old new = raised old ≤ new

-- A count of failures stays at an answer, and rises at a refusal.
abbrev pub CountsFault : {T E : Type 0} → Result T E → ℕ → ℕ → Type 0
CountsFault result old new = MatchResult result (λ _. new ≡ old) (λ _. Rose old new × (old ≤ new))
