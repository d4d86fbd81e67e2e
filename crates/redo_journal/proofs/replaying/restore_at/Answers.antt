use Rattle.redo_journal.proofs.Common.{◌+◌, ◌∙◌, ap, sym, subst, length, arith, IsSome, All, Image, images_at, AreWritable, with_images}
use Rattle.redo_journal.proofs.CallLemmas.{homes_by_telling}
use Rattle.redo_journal.proofs.PlacingLemmas.{reach_writable}
use Rattle.redo_journal.proofs.RestLemmas.{homes_go_on, homes_still}
use Rattle.redo_journal.proofs.replaying.restore_at.Goals as goal

pub restore_group-requires-clause-writable : goal.restore_group-requires-clause-writable
restore_group-requires-clause-writable g c = λ told.
    let h = sym c.head_at.ensures.reads.tells ∙ told in
    subst (λ (x : Image). AreWritable (length x.pages) c.as_slice.result.now) (sym c.head_at.ensures.reads.image)
    (subst (AreWritable (length (g.D.Disk.image c.args.disk.now).pages)) (sym c.as_slice.ensures.value)
    (reach_writable _ _ _ _ (c.in_ok-head.ensures.ok h).reach (c.requires.longer h) (c.requires.low h)))

pub returns-in_err-head-clause-pends : goal.returns-in_err-head-clause-pends
returns-in_err-head-clause-pends g c = λ images start known at. homes_still c.head_at.ensures.reads.moments at

pub returns-in_err-restore_group-clause-pends : goal.returns-in_err-restore_group-clause-pends
returns-in_err-restore_group-clause-pends g c = λ images start known at.
    homes_by_telling g.D.Disk g.met.D.Disk.tells_image (c.restore_group.ensures.writes.tells ∙ c.head_at.ensures.reads.tells)
    (λ h. homes_go_on (homes_still c.head_at.ensures.reads.moments at)
    (c.restore_group.ensures.pends images start (subst (All (λ home. IsSome (images home))) (sym c.as_slice.ensures.value)
    (known h c.in_ok-head.head (c.in_ok-head.ensures.ok h) (c.in_ok-head.ensures.only h)))))

pub returns-clause-pends : goal.returns-clause-pends
returns-clause-pends g c = λ images start known at.
    homes_by_telling g.D.Disk g.met.D.Disk.tells_image (c.restore_group.ensures.writes.tells ∙ c.head_at.ensures.reads.tells)
    (λ h. homes_go_on (homes_still c.head_at.ensures.reads.moments at)
    (c.restore_group.ensures.pends images start (subst (All (λ home. IsSome (images home))) (sym c.as_slice.ensures.value)
    (known h c.in_ok-head.head (c.in_ok-head.ensures.ok h) (c.in_ok-head.ensures.only h)))))

pub returns-clause-placed : goal.returns-clause-placed
returns-clause-placed g c = λ h.
    let start = g.D.Disk.image c.args.disk.now in
    c.in_ok-restore_group.ensures.placed (c.head_at.ensures.reads.tells ∙ h)
    ∙ (ap (λ (x : Image). with_images x.pages (images_at x.journal (c.args.at + 1) c.as_slice.result.now)) c.head_at.ensures.reads.image
    ∙ ap (λ s. with_images start.pages (images_at start.journal (c.args.at + 1) s)) c.as_slice.ensures.value)

pub returns-clause-cost : goal.returns-clause-cost
returns-clause-cost g c = omega (arith, ap length c.as_slice.ensures.value)
