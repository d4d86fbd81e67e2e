use Rattle.redo_journal.proofs.Common.{◌∙◌, ap, sym, subst, length, on_ok_weaker, Image, IsHeld, image_list}
use Rattle.redo_journal.proofs.CallLemmas.{on_either}
use Rattle.redo_journal.proofs.CommitLemmas.{held_after_body}
use Rattle.redo_journal.proofs.RestLemmas.{settled_by, body_starts, body_leaves, synced_stretch}
use Rattle.redo_journal.proofs.committing.write_body.Goals as goal

pub returns-in_err-write_groups-clause-any_moment : goal.returns-in_err-write_groups-clause-any_moment
returns-in_err-write_groups-clause-any_moment g c =
    (c.write_groups.ensures.pends _ (body_starts _ _ _ (g.met.D.Disk.tells_image c.args.disk.now) c.requires.settled (λ h. (c.requires.idle h).has_gate))).0

pub returns-clause-any_moment : goal.returns-clause-any_moment
returns-clause-any_moment g c =
    synced_stretch body_leaves _ _ (g.met.D.Disk.tells_image c.write_groups.new.disk)
    (c.write_groups.ensures.pends _ (body_starts _ _ _ (g.met.D.Disk.tells_image c.args.disk.now) c.requires.settled (λ h. (c.requires.idle h).has_gate)))
    (on_either c.sync.result c.sync.ensures.err c.sync.ensures.ok)

pub returns-clause-settled : goal.returns-clause-settled
returns-clause-settled g c = on_ok_weaker c.sync.result (λ landed. settled_by _ landed c.sync.ensures.image) c.sync.ensures.ok

pub returns-clause-held : goal.returns-clause-held
returns-clause-held g c =
    on_ok_weaker c.sync.result (λ landed h. subst (IsHeld (image_list c.args.images.now)) (sym c.sync.ensures.image)
    (held_after_body (c.requires.idle h) (c.in_ok-write_groups.ensures.kept h)
    (c.in_ok-write_groups.ensures.held h _ (c.requires.reach h) c.requires.some))) c.sync.ensures.ok

pub returns-clause-length : goal.returns-clause-length
returns-clause-length g c =
    on_ok_weaker c.sync.result (λ landed h. ap (λ (x : Image). length x.journal) c.sync.ensures.image ∙ c.in_ok-write_groups.ensures.length h) c.sync.ensures.ok
