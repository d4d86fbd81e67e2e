use Rattle.redo_journal.proofs.Common.{◌∙◌, subst, SameBody}
use Rattle.redo_journal.proofs.CallLemmas.{by_telling}
use Rattle.redo_journal.proofs.CommitLemmas.{brought_home, home_stretch, homes_stretch, idle_again, armed_with, open_with}
use Rattle.redo_journal.proofs.replaying.bring_back.Goals as goal

pub returns-in_err-restore-clause-any_moment : goal.returns-in_err-restore-clause-any_moment
returns-in_err-restore-clause-any_moment g c = λ pages settles.
    by_telling g.D.Disk g.met.D.Disk.tells_image c.restore.ensures.writes.tells
    (λ h. let held = open_with (c.requires.armed h) (c.requires.len h) settles in
    homes_stretch held.1 held.3 (c.restore.ensures.any_moment held.0 (λ told. held.2)))

pub returns-in_err-write_gate-clause-any_moment : goal.returns-in_err-write_gate-clause-any_moment
returns-in_err-write_gate-clause-any_moment g c = λ pages settles.
    by_telling g.D.Disk g.met.D.Disk.tells_image (c.write_gate.ensures.writes.tells ∙ c.restore.ensures.writes.tells)
    (λ h. let held = open_with (c.requires.armed h) (c.requires.len h) settles in
    home_stretch _ held.1 (c.in_ok-restore.ensures.placed h held.0 held.2) (c.in_ok-restore.ensures.journal h) held.3
    (c.restore.ensures.any_moment held.0 (λ told. held.2)) c.write_gate.ensures.any_moment)

pub returns-clause-any_moment : goal.returns-clause-any_moment
returns-clause-any_moment g c = λ pages settles.
    by_telling g.D.Disk g.met.D.Disk.tells_image (c.write_gate.ensures.writes.tells ∙ c.restore.ensures.writes.tells)
    (λ h. let held = open_with (c.requires.armed h) (c.requires.len h) settles in
    home_stretch _ held.1 (c.in_ok-restore.ensures.placed h held.0 held.2) (c.in_ok-restore.ensures.journal h) held.3
    (c.restore.ensures.any_moment held.0 (λ told. held.2)) c.write_gate.ensures.any_moment)

pub returns-clause-placed : goal.returns-clause-placed
returns-clause-placed g c = λ h all holds.
    let armed = armed_with (c.requires.armed h) (c.requires.len h) holds in
    let pages = c.in_ok-restore.ensures.placed h all armed.1 in
    let told = c.restore.ensures.writes.tells ∙ h in (
      brought_home _ armed.0 pages (c.in_ok-write_gate.ensures.only told),
      idle_again _ armed.0 pages (c.in_ok-restore.ensures.journal h) (c.in_ok-write_gate.ensures.only told) (c.in_ok-write_gate.ensures.gate told),
    )

pub returns-clause-body : goal.returns-clause-body
returns-clause-body g c = λ h.
    subst (λ j. SameBody j (g.D.Disk.image c.write_gate.new.disk).journal) (c.in_ok-restore.ensures.journal h)
    (c.in_ok-write_gate.ensures.only (c.restore.ensures.writes.tells ∙ h)).body
