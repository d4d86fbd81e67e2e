use Rattle.redo_journal.proofs.Common.{inr}
use Rattle.redo_journal.proofs.RestLemmas.{either_first, body_goes}
use Rattle.redo_journal.proofs.writes.put_behind.Goals as goal

pub returns-in_err-write-clause-pends : goal.returns-in_err-write-clause-pends
returns-in_err-write-clause-pends g c = λ start at.
    body_goes _ _ (g.met.D.Disk.tells_image c.args.disk.now) c.requires.behind at (either_first c.in_err-write.ensures.err)

pub returns-clause-pends : goal.returns-clause-pends
returns-clause-pends g c = λ start at. body_goes _ _ (g.met.D.Disk.tells_image c.args.disk.now) c.requires.behind at (inr c.in_ok-write.ensures.ok_moments)
