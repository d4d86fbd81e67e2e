use Rattle.redo_journal.proofs.Common.{◌∙◌, sym, subst, on_ok_weaker, image_list, ArePlaced, map_of}
use Rattle.redo_journal.proofs.CallLemmas.{by_telling}
use Rattle.redo_journal.proofs.CommitLemmas.{commit_stretch, images_placed}
use Rattle.redo_journal.proofs.ImageLemmas.{image_map-is, images_reach, images_some, in_list}
use Rattle.redo_journal.proofs.committing.commit.Goals as goal

pub arm-requires-clause-reach : goal.arm-requires-clause-reach
arm-requires-clause-reach g c = λ h. images_reach c.args.images.now _ c.are_ordered.ensures (c.requires.near h)

pub arm-requires-clause-some : goal.arm-requires-clause-some
arm-requires-clause-some g c = images_some c.args.images.now c.requires.some

pub returns-in_err-arm-clause-any_moment : goal.returns-in_err-arm-clause-any_moment
returns-in_err-arm-clause-any_moment g c = λ after placed. c.arm.ensures.any_moment after (in_list c.args.images.now placed)

pub returns-clause-any_moment : goal.returns-clause-any_moment
returns-clause-any_moment g c = λ after placed.
    let home = in_list c.args.images.now placed in
    by_telling g.D.Disk g.met.D.Disk.tells_image (c.bring_home.ensures.writes.tells ∙ c.arm.ensures.writes.tells)
    (λ h. commit_stretch (c.arm.ensures.any_moment after home)
    (c.bring_home.ensures.any_moment after (subst (λ p. ArePlaced (map_of (image_list c.args.images.now)) p after) (sym (c.in_ok-arm.ensures.pages h)) home)))

pub returns-clause-placed : goal.returns-clause-placed
returns-clause-placed g c =
    let now = (g.D.Disk.image c.bring_home.new.disk).pages in
    on_ok_weaker c.bring_home.result (λ placed h.
    subst (λ m. ArePlaced m (g.D.Disk.image c.args.disk.now).pages now) (sym (image_map-is c.args.images.now))
    (subst (λ p. ArePlaced (map_of (image_list c.args.images.now)) p now) (c.in_ok-arm.ensures.pages h)
    (placed (c.arm.ensures.writes.tells ∙ h)))) c.bring_home.ensures.placed

pub returns-in_err-arm-clause-placeable : goal.returns-in_err-arm-clause-placeable
returns-in_err-arm-clause-placeable g c = λ h. images_placed c.args.images.now (g.D.Disk.image c.args.disk.now) (c.requires.idle h) c.are_ordered.ensures (c.requires.near h)

pub returns-clause-placeable : goal.returns-clause-placeable
returns-clause-placeable g c = λ h. images_placed c.args.images.now (g.D.Disk.image c.args.disk.now) (c.requires.idle h) c.are_ordered.ensures (c.requires.near h)

pub returns-clause-journal : goal.returns-clause-journal
returns-clause-journal g c =
    on_ok_weaker c.bring_home.result (λ body h. (body (c.arm.ensures.writes.tells ∙ h)).len ∙ c.in_ok-arm.ensures.length h) c.bring_home.ensures.body

pub returns-clause-gate : goal.returns-clause-gate
returns-clause-gate g c = on_ok_weaker c.bring_home.result (λ gate h. gate (c.arm.ensures.writes.tells ∙ h)) c.bring_home.ensures.gate
