use Rattle.redo_journal.proofs.Common.{ℕ, ◌<◌, ◌≤◌, ◌∷◌, ◌∙◌, ap, sym, length, take, drop, arith, length-drop, IsTrue, length-take, head_page, Image, coming, ImageList, homes_of, bytes_of}
use Rattle.redo_journal.proofs.RestLemmas.{body_goes_on}
use Rattle.redo_journal.proofs.BodyLemmas.{groups_step, groups_done, length-homes, length-bytes, length-row, more_left, head_is, row_of, kept_row}
use Rattle.redo_journal.proofs.CallLemmas.{went_on}
use Rattle.redo_journal.proofs.LengthLemmas.{one_more}
use Rattle.redo_journal.proofs.committing.write_groups.Goals as goal

pub next_head-head-requires-clause-there : goal.next_head-head-requires-clause-there
next_head-head-requires-clause-there g c =
    let inv = c.loop-left.invariant in
    omega (arith, c.min-count.ensures, ap length inv.named, length-homes (coming c.loop-left.rest))

pub write-requires : goal.write-requires
write-requires g c =
    let inv = c.loop-left.invariant in
    (head_is inv.groups c.min-count.result (omega (arith, c.min-count.ensures)) (omega (arith, c.min-count.ensures)) (omega (arith, c.min-count.ensures))
    (c.next_head-head.ensures.homes ∙ ap (λ (s : ImageList). take c.min-count.result (homes_of s)) inv.named) c.next_head-head.ensures.typed (λ i. c.next_head-head.result.more)).rules

pub returns-in_err-put_behind-clause-pends : goal.returns-in_err-put_behind-clause-pends
returns-in_err-put_behind-clause-pends g c = λ start at. body_goes_on (c.loop-left.invariant.pends start at) (c.put_behind.ensures.pends start)

pub returns-in_err-write_images-clause-pends : goal.returns-in_err-write_images-clause-pends
returns-in_err-write_images-clause-pends g c = λ start at.
    body_goes_on (body_goes_on (c.loop-left.invariant.pends start at) (c.put_behind.ensures.pends start)) (c.write_images.ensures.pends start)

pub loop-left-preserved : goal.loop-left-preserved
loop-left-preserved g c =
    let inv = c.loop-left.invariant in
    let told : Type 0 = IsTrue (g.D.Disk.tells c.args.disk.now) in
    let count : ℕ = c.min-count.result in
    let rest : ImageList = coming c.loop-left.rest in
    let old = g.D.Disk.image c.loop-left.disk in
    let new = g.D.Disk.image c.write_images.new.disk in
    let some : 0 < count = omega (arith, c.min-count.ensures) in
    let fits : count ≤ length rest = omega (arith, c.min-count.ensures) in
    let dropped = c.in_ok-write_images.ensures.rest in
    let left = ap length dropped ∙ length-drop count rest in
    let told1 = λ (h : told). inv.went.tells ∙ h in
    let told2 = λ (h : told). c.put_behind.ensures.writes.tells ∙ told1 h in
    let written = head_page c.next_head-head.result ∷ bytes_of (take count rest) in
    let row = λ (h : told).
    row_of old new c.loop-left.at (bytes_of (take count rest)) c.write.ensures (c.in_ok-put_behind.ensures.image (told1 h)) (c.in_ok-write_images.ensures.journal (told2 h)) in
    let is = head_is inv.groups count some (omega (arith, c.min-count.ensures)) fits
    (c.next_head-head.ensures.homes ∙ ap (λ (s : ImageList). take count (homes_of s)) inv.named) c.next_head-head.ensures.typed
    (c.next_head-head.ensures.more ∙ more_left count c.loop-left.left rest inv.count) in
    record {
      count = omega arith;
      named = c.next_head-head.ensures.rest ∙ (ap (drop count) inv.named ∙ sym dropped);
      behind = omega arith;
      counted = omega (arith, one_more c.loop-left.left count (omega arith) c.min-count.ensures, inv.counted);
      far = omega arith;
      groups = groups_step inv.groups count some fits is inv.room row dropped;
      room = λ h.
          let within = inv.room h in
          omega (arith, length-row old.journal c.loop-left.at written within, ap length (row h), length-bytes (take count rest), length-take count rest);
      longest = λ h. omega (arith, length-row old.journal c.loop-left.at written (inv.room h), ap length (row h), length-bytes (take count rest), length-take count rest, inv.longest h);
      kept = λ h. kept_row c.loop-left.at written (inv.kept h) inv.behind (inv.room h)
          (c.in_ok-write_images.ensures.pages (told2 h) ∙ ap (λ (x : Image). x.pages) (c.in_ok-put_behind.ensures.image (told1 h))) (row h);
      pends = λ start at. body_goes_on (body_goes_on (inv.pends start at) (c.put_behind.ensures.pends start)) (c.write_images.ensures.pends start);
      went = went_on g.D.Disk (went_on g.D.Disk inv.went c.in_ok-put_behind.ensures.writes) c.in_ok-write_images.ensures.writes;
    }

pub returns-clause-held : goal.returns-clause-held
returns-clause-held g c = λ told len reach some.
    let inv = c.loop-left.invariant in
    groups_done inv.groups (omega (arith, c.loop-left-test.false)) told (inv.room told) some len reach

pub returns-clause-length : goal.returns-clause-length
returns-clause-length g c = λ told.
    let inv = c.loop-left.invariant in
    omega (arith, inv.counted, inv.longest told, c.loop-left-test.false)
