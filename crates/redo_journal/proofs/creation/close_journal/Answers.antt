use Rattle.redo_journal.proofs.Common.{ap, false, length, arith, Image}
use Rattle.redo_journal.proofs.PlacingLemmas.{length-written}
use Rattle.redo_journal.proofs.GateLemmas.{gate_is, idle_after}
use Rattle.redo_journal.proofs.creation.close_journal.Goals as goal

pub returns-clause-idle : goal.returns-clause-idle
returns-clause-idle g c = λ told. idle_after _ c.gate_page.ensures (c.in_ok-write.ensures.ok told) c.sync.ensures.image

pub returns-clause-length : goal.returns-clause-length
returns-clause-length g c = λ told.
    omega (
      arith,
      ap (λ (x : Image). length x.journal) c.sync.ensures.image,
      ap (λ (x : Image). length x.journal) (c.in_ok-write.ensures.ok told),
      length-written (g.D.Disk.image c.args.disk.now).journal 0 c.gate_page.result (omega arith),
    )

pub returns-clause-gate : goal.returns-clause-gate
returns-clause-gate g c = λ told. gate_is (g.D.Disk.image c.args.disk.now).journal false c.gate_page.ensures
    (ap (λ (x : Image). x.journal) (c.in_ok-write.ensures.ok told)) (ap (λ (x : Image). x.journal) c.sync.ensures.image)
