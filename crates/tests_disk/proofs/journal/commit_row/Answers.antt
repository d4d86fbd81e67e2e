use Rattle.redo_journal.proofs.Common.{arith}
use Rattle.tests_disk.proofs.journal.commit_row.Goals as goal

pub commit-requires-clause-some : goal.commit-requires-clause-some
commit-requires-clause-some c = (c.args.from, (c.in-Ok.ensures c.args.from).1 (omega arith, omega arith))
