-- Which calls on a disk are to fail.
use Rattle.std.specs.Prelude.{ℕ, ◌-◌, ◌||◌, ◌==◌, nat_lt, Bool, false, List, [], Option, Some, None}
use Rattle.std.specs.List.{list_any}

pub record CallPlan : Type 0 where
  -- these calls fail, counted from 1 after the first `failing_from` calls
  pub failing : List ℕ
  pub failing_from : ℕ
  -- all calls fail after so many, if any, counted from 1 after the first `last_from` calls
  pub last : Option ℕ
  pub last_from : ℕ

-- No call fails.
abbrev pub no_failures : CallPlan
no_failures = record { failing = []; failing_from = 0; last = None; last_from = 0 }

-- whether a call of this number comes after the last
abbrev pub is_past : Option ℕ → ℕ → Bool
is_past None call = false
is_past (Some last) call = nat_lt last call

-- whether the call of this number, counted from 1, fails
abbrev pub call_fails : CallPlan → ℕ → Bool
call_fails plan call =
    list_any (λ number. number == call - plan.failing_from) plan.failing || is_past plan.last (call - plan.last_from)
