use Rattle.redo_journal.proofs.Common.{sym, subst, ap, ◌∙◌, inr, IsTrue, on_ok_weaker, Image, LeavesOnly-then, is_open, DiffersInGate}
use Rattle.redo_journal.proofs.CallLemmas.{on_either}
use Rattle.redo_journal.proofs.GateLemmas.{gate_is}
use Rattle.redo_journal.proofs.RestLemmas.{either_first, one_sync, settled_by, left_at_gate, gate_written}
use Rattle.redo_journal.proofs.writes.write_gate.Goals as goal

pub returns-in_err-write-clause-any_moment : goal.returns-in_err-write-clause-any_moment
returns-in_err-write-clause-any_moment g c =
    left_at_gate _ _ _ _ (g.met.D.Disk.tells_image c.args.disk.now) c.requires.settled c.requires.has_gate (either_first c.in_err-write.ensures.err)

pub returns-clause-any_moment : goal.returns-clause-any_moment
returns-clause-any_moment g c =
    let d0 = c.args.disk.now in
    let d1 = c.write.new.self in
    LeavesOnly-then _ _ (g.D.Disk.moments d1) _
    (left_at_gate _ _ _ _ (g.met.D.Disk.tells_image d0) c.requires.settled c.requires.has_gate (inr c.in_ok-write.ensures.ok_moments))
    (one_sync _ _ (g.met.D.Disk.tells_image d1)
    (λ h. let told : IsTrue (g.D.Disk.tells d0) = sym c.write.ensures.tells ∙ h in
    (gate_written _ _ (c.requires.has_gate told) c.gate_page.ensures (c.in_ok-write.ensures.ok told)).0)
    (on_either c.sync.result c.sync.ensures.err c.sync.ensures.ok))

pub returns-clause-gate : goal.returns-clause-gate
returns-clause-gate g c =
    on_ok_weaker c.sync.result (λ landed told. ap (λ (x : Image). is_open x.journal) c.sync.ensures.image
    ∙ (gate_written _ _ (c.requires.has_gate told) c.gate_page.ensures (c.in_ok-write.ensures.ok told)).1) c.sync.ensures.ok

pub returns-clause-bytes : goal.returns-clause-bytes
returns-clause-bytes g c =
    on_ok_weaker c.sync.result (λ landed told. gate_is (g.D.Disk.image c.args.disk.now).journal c.args.opens c.gate_page.ensures
    (ap (λ (x : Image). x.journal) (c.in_ok-write.ensures.ok told)) (ap (λ (x : Image). x.journal) c.sync.ensures.image)) c.sync.ensures.ok

pub returns-clause-only : goal.returns-clause-only
returns-clause-only g c =
    on_ok_weaker c.sync.result (λ landed told. subst (DiffersInGate (g.D.Disk.image c.args.disk.now)) (sym c.sync.ensures.image)
    (gate_written _ _ (c.requires.has_gate told) c.gate_page.ensures (c.in_ok-write.ensures.ok told)).0) c.sync.ensures.ok

pub returns-clause-settled : goal.returns-clause-settled
returns-clause-settled g c = on_ok_weaker c.sync.result (λ landed. settled_by _ landed c.sync.ensures.image) c.sync.ensures.ok
