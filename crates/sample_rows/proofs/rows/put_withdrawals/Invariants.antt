use Rattle.std.proofs.Common.{◌≡◌, ◌++◌}
use Rattle.sample_rows.specs.Generator.{withdrawals}
use Rattle.sample_rows.proofs.rows.put_withdrawals.Given as goal

-- the rows so far are put
abbrev pub invariant-loop-number : goal.invariant-loop-number
invariant-loop-number l = l.text.items ≡ l.initial.text.items ++ withdrawals l.number
