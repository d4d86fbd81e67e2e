use Rattle.redo_journal.proofs.Common.{◌+◌, ◌∙◌, ap, arith, IsTrue, slice_index_or, Image, page_at, written_at}
use Rattle.redo_journal.proofs.RestLemmas.{homes_go_on, homes_still}
use Rattle.redo_journal.proofs.ReplayLemmas.{read_is, home_restored}
use Rattle.redo_journal.proofs.replaying.restore_group.Goals as goal

pub returns-in_err-read-clause-pends : goal.returns-in_err-read-clause-pends
returns-in_err-read-clause-pends g c = λ images start all at. homes_go_on (c.loop-i.invariant.pends images start all at) (homes_still c.read.ensures.moments)

pub returns-in_err-put_home-clause-pends : goal.returns-in_err-put_home-clause-pends
returns-in_err-put_home-clause-pends g c = λ images start all at.
    homes_go_on (homes_go_on (c.loop-i.invariant.pends images start all at) (homes_still c.read.ensures.moments))
    (c.put_home.ensures.pends images start (all c.loop-i.i 0 c.loop-i-test.true))

pub loop-i-preserved : goal.loop-i-preserved
loop-i-preserved g c =
    let inv = c.loop-i.invariant in
    let told : Type 0 = IsTrue (g.D.Disk.tells c.args.disk.now) in
    let now = g.D.Disk.image c.loop-i.disk in
    let place = c.args.at + c.loop-i.i in
    let tells = λ (h : told). inv.tells ∙ h in
    let wrote = λ (h : told). c.in_ok-put_home.ensures.image (c.read.ensures.tells ∙ tells h) in
    let step = λ (h : told).
    home_restored (g.D.Disk.image c.args.disk.now).journal now.pages (g.D.Disk.image c.put_home.new.disk).pages c.args.homes.now c.args.at c.loop-i.i c.loop-i-test.true
    (read_is now.journal place c.in_ok-read.field-0 (c.in_ok-read.ensures.ok (tells h)) c.if-not-branch.false ∙ ap (λ p. page_at p place) (inv.journal h))
    (ap (λ (x : Image). x.pages) (wrote h) ∙ ap (λ (x : Image). written_at x.pages (slice_index_or c.args.homes.now c.loop-i.i 0) c.read.new.buf) c.read.ensures.image)
    (inv.writable h) in
    record {
      placed = λ h. (step h).0 ∙ inv.placed h;
      writable = λ h. (step h).1;
      journal = λ h. ap (λ (x : Image). x.journal) (wrote h) ∙ (ap (λ (x : Image). x.journal) c.read.ensures.image ∙ inv.journal h);
      pends = λ images start all at.
          homes_go_on (homes_go_on (inv.pends images start all at) (homes_still c.read.ensures.moments))
          (c.put_home.ensures.pends images start (all c.loop-i.i 0 c.loop-i-test.true));
      faults = c.in_ok-put_home.ensures.writes.faults ∙ (c.in_ok-read.ensures.faults ∙ inv.faults);
      reads = omega arith;
      rise = omega arith;
      tells = c.put_home.ensures.writes.tells ∙ (c.read.ensures.tells ∙ inv.tells);
    }
