use Rattle.page_disk.specs.SinceLaws.{LeavesOnly-then, LeavesOnly-weaken}
use Rattle.redo_journal.specs.Settled.{SettlesTo}
use Rattle.page_space.proofs.settling.settle.Goals as goal

pub returns-in-Ok-Armed-clause-any_moment : goal.returns-in-Ok-Armed-clause-any_moment
returns-in-Ok-Armed-clause-any_moment g c = λ told pages settles.
    LeavesOnly-then (λ x. SettlesTo x pages) _ (g.D.Disk.moments c.ready.new.disk) _
    (LeavesOnly-weaken _ (λ x. SettlesTo x pages) _ _ (λ x same. rw same settles) c.ready.ensures.any_moment)
    (c.replay_journal.ensures.any_moment pages (rw c.ready.ensures.image settles))
