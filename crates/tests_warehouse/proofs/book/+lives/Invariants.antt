use Rattle.std.proofs.Common.{length}
use Rattle.tests_warehouse.proofs.book.+lives.Given as goal

-- a call looks at what follows the first change
abbrev pub decreases-lives : goal.decreases-lives
decreases-lives l = length l.changes.now
