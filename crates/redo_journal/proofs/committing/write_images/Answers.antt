use Rattle.redo_journal.proofs.Common.{◌≡◌, ◌+◌, ◌∷◌, ◌∙◌, ap, sym, subst, length, arith, IfSome, IsTrue, Option, Image, coming}
use Rattle.redo_journal.proofs.PlacingLemmas.{length-written}
use Rattle.redo_journal.proofs.RestLemmas.{body_goes_on}
use Rattle.redo_journal.proofs.BodyLemmas.{row_step, drop_step}
use Rattle.redo_journal.proofs.CallLemmas.{went_on}
use Rattle.redo_journal.proofs.committing.write_images.Goals as goal

pub returns-in_err-put_behind-clause-pends : goal.returns-in_err-put_behind-clause-pends
returns-in_err-put_behind-clause-pends g c = λ start at. body_goes_on (c.loop-i.invariant.pends start at) (c.put_behind.ensures.pends start)

pub loop-i-preserved : goal.loop-i-preserved
loop-i-preserved g c =
    let inv = c.loop-i.invariant in
    let old = g.D.Disk.image c.loop-i.disk in
    let rest = coming c.next.new.self in
    let is : coming c.loop-i.images ≡ (c.unwrap.result.0, c.unwrap.result.1.now) ∷ rest =
    subst (λ (o : Option _). IfSome o (λ found. coming c.loop-i.images ≡ (found.0, found.1.now) ∷ rest)) c.unwrap.ensures c.next.ensures.some in
    let size = ap length is in
    let told = λ (h : IsTrue (g.D.Disk.tells c.put_behind.new.disk)). sym c.put_behind.ensures.writes.tells ∙ h in
    let wrote = λ (h : IsTrue (g.D.Disk.tells c.put_behind.new.disk)). c.in_ok-put_behind.ensures.image (told h) in
    record {
      left = omega arith;
      rest = drop_step _ _ is c.loop-i-test.true inv.rest;
      room = λ h.
          let low = inv.room (told h) in
          omega (arith, ap (λ (x : Image). length x.journal) (wrote h), length-written old.journal (c.args.at + c.loop-i.i) c.unwrap.result.1.now low);
      pages = λ h. ap (λ (x : Image). x.pages) (wrote h) ∙ inv.pages (told h);
      journal = λ h. row_step old.journal _ _ _ is c.loop-i-test.true (ap (λ (x : Image). x.journal) (wrote h)) (inv.journal (told h));
      pends = λ start at. body_goes_on (inv.pends start at) (c.put_behind.ensures.pends start);
      went = went_on g.D.Disk inv.went c.in_ok-put_behind.ensures.writes;
    }
