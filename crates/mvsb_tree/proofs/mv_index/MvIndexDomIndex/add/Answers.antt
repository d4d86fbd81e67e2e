use Rattle.std.specs.Prelude.{slice_index}
use Rattle.std.proofs.lemmas.Result.{on_ok_weaker}
use Rattle.mvsb_tree.proofs.Indexing.{damaged_point, unchanged_stays}
use Rattle.mvsb_tree.proofs.mv_index.MvIndexDomIndex.add.Goals as goal

pub returns-clause-apart : goal.returns-clause-apart
returns-clause-apart g c = on_ok_weaker c.mv_add.result (λ told tells page some not_changed.
    unchanged_stays (g.S.Pages.map c.args.stage.now) (g.S.Pages.map c.mv_add.new.stage) c.args.tree.now (slice_index c.args.point.now.keys 0) c.args.point.now.version page (told tells) some not_changed) c.mv_add.ensures.apart

pub returns-clause-damaged : goal.returns-clause-damaged
returns-clause-damaged g c = λ page e tells.
    damaged_point (g.S.Pages.map c.args.stage.now) (g.S.Pages.free_in_order c.args.stage.now) c.args.tree.now (slice_index c.args.point.now.keys 0) c.args.point.now.version c.args.point.now.weight page (c.mv_add.ensures.damaged page e tells)

pub returns-clause-sound : goal.returns-clause-sound
returns-clause-sound g c = λ points page tells s new b ordered. c.mv_add.ensures.sound points page tells s new.few new.last b ordered
