use Rattle.redo_journal.proofs.Common.{inr}
use Rattle.redo_journal.proofs.RestLemmas.{either_first, home_goes}
use Rattle.redo_journal.proofs.writes.put_home.Goals as goal

pub returns-in_err-write-clause-pends : goal.returns-in_err-write-clause-pends
returns-in_err-write-clause-pends g c = λ images start some at.
    home_goes _ _ (g.met.D.Disk.tells_image c.args.disk.now) c.requires some at (either_first c.in_err-write.ensures.err)

pub returns-clause-pends : goal.returns-clause-pends
returns-clause-pends g c = λ images start some at.
    home_goes _ _ (g.met.D.Disk.tells_image c.args.disk.now) c.requires some at (inr c.in_ok-write.ensures.ok_moments)
