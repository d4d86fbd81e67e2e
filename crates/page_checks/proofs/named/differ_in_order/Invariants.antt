use Rattle.std.proofs.Common.{ℕ, ◌+◌, ◌<◌, get_or}
use Rattle.page_checks.proofs.named.differ_in_order.Given as goal

abbrev pub invariant-loop-place : goal.invariant-loop-place
invariant-loop-place l = (k : ℕ) → k + 1 < l.place → get_or l.pages k 0 < get_or l.pages (k + 1) 0
