use Rattle.redo_journal.proofs.Common.{ap, true, Image}
use Rattle.redo_journal.proofs.GateLemmas.{created_after, gate_is}
use Rattle.redo_journal.proofs.RestLemmas.{settled_by}
use Rattle.redo_journal.proofs.creation.open_creation.Goals as goal

pub returns-clause-created : goal.returns-clause-created
returns-clause-created g c = λ told superblock meta written.
    created_after c.gate_page.ensures written (c.requires.idle told) (c.in_ok-write.ensures.ok told) c.sync.ensures.image

pub returns-clause-settled : goal.returns-clause-settled
returns-clause-settled g c = settled_by _ c.in_ok-sync.ensures.ok c.sync.ensures.image

pub returns-clause-gate : goal.returns-clause-gate
returns-clause-gate g c = λ told. gate_is (g.D.Disk.image c.args.disk.now).pages true c.gate_page.ensures
    (ap (λ (x : Image). x.pages) (c.in_ok-write.ensures.ok told)) (ap (λ (x : Image). x.pages) c.sync.ensures.image)
