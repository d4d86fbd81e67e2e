use Rattle.redo_journal.proofs.Common.{◌∙◌, sym, subst, Image, LeavesOnly, SettlesTo}
use Rattle.redo_journal.proofs.replaying.replay.Goals as goal

pub returns-in_err-bring_back-clause-any_moment : goal.returns-in_err-bring_back-clause-any_moment
returns-in_err-bring_back-clause-any_moment g c = λ pages settles.
    subst (λ ms. LeavesOnly (λ x. SettlesTo x pages) ms (g.D.Disk.moments c.bring_back.new.disk))
    (c.count_images.ensures.reads.moments ∙ (c.len-2.ensures.moments ∙ c.len.ensures.moments))
    (c.bring_back.ensures.any_moment pages (subst (λ (x : Image). SettlesTo x pages)
    (sym (c.count_images.ensures.reads.image ∙ (c.len-2.ensures.image ∙ c.len.ensures.image))) settles))

pub returns-clause-any_moment : goal.returns-clause-any_moment
returns-clause-any_moment g c = λ pages settles.
    subst (λ ms. LeavesOnly (λ x. SettlesTo x pages) ms (g.D.Disk.moments c.bring_back.new.disk))
    (c.count_images.ensures.reads.moments ∙ (c.len-2.ensures.moments ∙ c.len.ensures.moments))
    (c.bring_back.ensures.any_moment pages (subst (λ (x : Image). SettlesTo x pages)
    (sym (c.count_images.ensures.reads.image ∙ (c.len-2.ensures.image ∙ c.len.ensures.image))) settles))
