use Rattle.std.proofs.Common.{◌+◌, refl}
use Rattle.std.specs.Prelude.{slice_index}
use Rattle.std.proofs.lemmas.Result.{on_ok_weaker}
use Rattle.mvsb_tree.proofs.Indexing.{damaged_point, unchanged_stays}
use Rattle.ba_tree.proofs.KeyTreeAdditions.{all_three, changes_of_grows, changes_of_itself}
use Rattle.ba_tree.proofs.key_tree.KeyTreeBorderTree.add.Goals as goal

pub returns-clause-added : goal.returns-clause-added
returns-clause-added g c = all_three c.mv_add.result c.mv_add.ensures.stands c.mv_add.ensures.change c.mv_add.ensures.balanced (λ stands change balanced tells points s new. record {
  stood = stands tells points c.args.point.now s new.few new.last refl refl refl;
  change = change tells points s new.last;
  balance = λ low. balanced tells points s new.few new.last low;
})

pub returns-clause-sound : goal.returns-clause-sound
returns-clause-sound g c = λ points page tells s new low ordered. c.mv_add.ensures.sound points page tells s new.few new.last low ordered

pub returns-clause-changes : goal.returns-clause-changes
returns-clause-changes g c = changes_of_itself g.S.Pages (c.args.tree.now.levels + 34) c.args.stage.now c.mv_add.new.stage c.mv_add.result c.mv_add.ensures.grows

pub returns-clause-growth : goal.returns-clause-growth
returns-clause-growth g c = λ tells points s new low.
    changes_of_grows g.S.Pages 24 c.args.stage.now c.mv_add.new.stage c.mv_add.result (c.mv_add.ensures.few points tells s new.few new.last low)

pub returns-clause-apart : goal.returns-clause-apart
returns-clause-apart g c = on_ok_weaker c.mv_add.result (λ told tells page some not_changed.
    unchanged_stays (g.S.Pages.map c.args.stage.now) (g.S.Pages.map c.mv_add.new.stage) c.args.tree.now (slice_index c.args.point.now.keys 0) c.args.point.now.version page (told tells) some not_changed) c.mv_add.ensures.apart

pub returns-clause-damaged : goal.returns-clause-damaged
returns-clause-damaged g c = λ page e tells.
    damaged_point (g.S.Pages.map c.args.stage.now) (g.S.Pages.free_in_order c.args.stage.now) c.args.tree.now (slice_index c.args.point.now.keys 0) c.args.point.now.version c.args.point.now.weight page (c.mv_add.ensures.damaged page e tells)
