use Rattle.redo_journal.proofs.Common.{inl, inr}
use Rattle.redo_journal.proofs.RestLemmas.{settled_by, homes_start, homes_leave, synced_stretch}
use Rattle.redo_journal.proofs.replaying.restore.Goals as goal

pub returns-in_err-restore_groups-clause-any_moment : goal.returns-in_err-restore_groups-clause-any_moment
returns-in_err-restore_groups-clause-any_moment g c = λ all holds.
    (c.restore_groups.ensures.pends all holds (homes_start _ _ _ _ (g.met.D.Disk.tells_image c.args.disk.now) c.requires.settled)).0

pub returns-in_err-sync-clause-any_moment : goal.returns-in_err-sync-clause-any_moment
returns-in_err-sync-clause-any_moment g c = λ all holds.
    synced_stretch homes_leave _ _ (g.met.D.Disk.tells_image c.restore_groups.new.disk)
    (c.restore_groups.ensures.pends all holds (homes_start _ _ _ _ (g.met.D.Disk.tells_image c.args.disk.now) c.requires.settled))
    (inl c.in_err-sync.ensures.err)

pub returns-clause-any_moment : goal.returns-clause-any_moment
returns-clause-any_moment g c = λ all holds.
    synced_stretch homes_leave _ _ (g.met.D.Disk.tells_image c.restore_groups.new.disk)
    (c.restore_groups.ensures.pends all holds (homes_start _ _ _ _ (g.met.D.Disk.tells_image c.args.disk.now) c.requires.settled))
    (inr c.in_ok-sync.ensures.ok)

pub returns-clause-settled : goal.returns-clause-settled
returns-clause-settled g c = settled_by _ c.in_ok-sync.ensures.ok c.sync.ensures.image
