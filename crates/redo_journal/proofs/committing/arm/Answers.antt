use Rattle.redo_journal.proofs.Common.{◌∙◌, on_ok_weaker}
use Rattle.redo_journal.proofs.CallLemmas.{by_telling, on_both}
use Rattle.redo_journal.proofs.CommitLemmas.{arm_stretch, armed_after_gate, body_stretch}
use Rattle.redo_journal.proofs.committing.arm.Goals as goal

pub returns-in_err-write_body-clause-any_moment : goal.returns-in_err-write_body-clause-any_moment
returns-in_err-write_body-clause-any_moment g c = λ after placed.
    by_telling g.D.Disk g.met.D.Disk.tells_image c.write_body.ensures.writes.tells (λ h. body_stretch (c.requires.idle h) c.write_body.ensures.any_moment)

pub returns-clause-any_moment : goal.returns-clause-any_moment
returns-clause-any_moment g c = λ after placed.
    by_telling g.D.Disk g.met.D.Disk.tells_image (c.write_gate.ensures.writes.tells ∙ c.write_body.ensures.writes.tells)
    (λ h. arm_stretch (c.requires.idle h) (c.in_ok-write_body.ensures.kept h) (c.in_ok-write_body.ensures.held h) placed
    c.write_body.ensures.any_moment c.write_gate.ensures.any_moment)

pub returns-clause-armed : goal.returns-clause-armed
returns-clause-armed g c =
    on_both c.write_gate.result (λ only gate h.
    let told = c.write_body.ensures.writes.tells ∙ h in
    armed_after_gate (c.in_ok-write_body.ensures.held h) (only told) (gate told)) c.write_gate.ensures.only c.write_gate.ensures.gate

pub returns-clause-length : goal.returns-clause-length
returns-clause-length g c =
    on_ok_weaker c.write_gate.result (λ only h. (only (c.write_body.ensures.writes.tells ∙ h)).body.len ∙ c.in_ok-write_body.ensures.length h) c.write_gate.ensures.only
