use Rattle.std.proofs.Common.{◌≡◌, length, ◌+ℤ◌}
use Rattle.std.specs.Int.{int_wrap, w128}
use Rattle.sample_rows.specs.Summary.{answers_in}
use Rattle.sample_rows.proofs.summary.answers_in.Given as goal

-- the total so far goes on with the answers in the rest
abbrev pub invariant-loop-line : goal.invariant-loop-line
invariant-loop-line l = int_wrap w128 (answers_in l.replies) ≡ int_wrap w128 (l.total +ℤ answers_in l.rest)

abbrev pub decreases-loop-line : goal.decreases-loop-line
decreases-loop-line l = length l.rest
