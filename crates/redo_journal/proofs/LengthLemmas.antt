-- The pages that the groups of a commit take.
use Rattle.redo_journal.proofs.Common.{◌≡◌, ℕ, ◌+◌, ◌-◌, ◌<◌, arith}
use Rattle.std.specs.Prelude.{min}
use Rattle.redo_journal.specs.Lengths.{head_count}

-- A group takes its head and its images, of which it has as many as fit.
pub one_more : (left count : ℕ) → 0 < left → count ≡ min left 500
    → 1 + count + (head_count (left - count) + (left - count)) ≡ head_count left + left
one_more left count some most = omega arith
