use Rattle.redo_journal.proofs.Common.{◌∙◌, subst, on_ok_weaker, SameBody}
use Rattle.redo_journal.proofs.CallLemmas.{by_telling, on_both}
use Rattle.redo_journal.proofs.CommitLemmas.{armed_writable, home_stretch, homes_stretch, brought_home, idle_again}
use Rattle.redo_journal.proofs.committing.bring_home.Goals as goal

pub write_homes-requires-clause-writable : goal.write_homes-requires-clause-writable
write_homes-requires-clause-writable g c = λ h. armed_writable (c.requires.armed h)

pub returns-in_err-write_homes-clause-any_moment : goal.returns-in_err-write_homes-clause-any_moment
returns-in_err-write_homes-clause-any_moment g c = λ after placed.
    by_telling g.D.Disk g.met.D.Disk.tells_image c.write_homes.ensures.writes.tells
    (λ h. homes_stretch (c.requires.armed h) placed c.write_homes.ensures.any_moment)

pub returns-clause-any_moment : goal.returns-clause-any_moment
returns-clause-any_moment g c = λ after placed.
    by_telling g.D.Disk g.met.D.Disk.tells_image (c.write_gate.ensures.writes.tells ∙ c.write_homes.ensures.writes.tells)
    (λ h. home_stretch _ (c.requires.armed h) (c.in_ok-write_homes.ensures.placed h) (c.in_ok-write_homes.ensures.journal h) placed
    c.write_homes.ensures.any_moment c.write_gate.ensures.any_moment)

pub returns-clause-placed : goal.returns-clause-placed
returns-clause-placed g c =
    on_ok_weaker c.write_gate.result (λ only h.
    brought_home _ (c.requires.armed h) (c.in_ok-write_homes.ensures.placed h) (only (c.write_homes.ensures.writes.tells ∙ h))) c.write_gate.ensures.only

pub returns-clause-idle : goal.returns-clause-idle
returns-clause-idle g c =
    on_both c.write_gate.result (λ only gate h.
    let told = c.write_homes.ensures.writes.tells ∙ h in
    idle_again _ (c.requires.armed h) (c.in_ok-write_homes.ensures.placed h) (c.in_ok-write_homes.ensures.journal h) (only told) (gate told))
    c.write_gate.ensures.only c.write_gate.ensures.gate

pub returns-clause-body : goal.returns-clause-body
returns-clause-body g c =
    on_ok_weaker c.write_gate.result (λ only h.
    subst (λ j. SameBody j (g.D.Disk.image c.write_gate.new.disk).journal) (c.in_ok-write_homes.ensures.journal h)
    (only (c.write_homes.ensures.writes.tells ∙ h)).body) c.write_gate.ensures.only

pub returns-clause-gate : goal.returns-clause-gate
returns-clause-gate g c = on_ok_weaker c.write_gate.result (λ bytes h. bytes (c.write_homes.ensures.writes.tells ∙ h)) c.write_gate.ensures.bytes
