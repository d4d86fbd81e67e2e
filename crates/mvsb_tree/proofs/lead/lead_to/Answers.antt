use Rattle.std.proofs.Common.{◌^◌, ◌<◌, length, refl, arith}
use Rattle.std.proofs.lemmas.Result.{on_ok_weaker}
use Rattle.mvsb_tree.proofs.Exits.{both_ok}
use Rattle.mvsb_tree.proofs.Leading.{change_at, led_more}
use Rattle.mvsb_tree.proofs.lead.lead_to.Goals as goal

pub returns-clause-led : goal.returns-clause-led
returns-clause-led g c = on_ok_weaker c.sb_add.result (λ told tells changes s.
    led_more (g.S.Pages.map c.args.stage.now) (g.S.Pages.map c.sb_add.new.stage) c.args.roots.now c.sb_add.new.tree changes c.args.version c.args.root c.args.top c.difference-more.result
    c.ranges.version.fits c.difference-more.ensures s
    (told.0 tells changes (change_at c.args.version c.difference-more.result) s (let few : length changes < 2 ^ 31 = omega (arith, s.count, c.if-roots.false) in few) refl refl)
    (told.1 tells changes s)) (both_ok _ _ c.sb_add.result c.sb_add.ensures.stands c.sb_add.ensures.change)

pub returns-then-roots-clause-sound : goal.returns-then-roots-clause-sound
returns-then-roots-clause-sound g c = λ changes page tells s few balanced ordered e. (let number = s.count in omega (arith, number, few, c.if-roots.true))

pub returns-clause-damaged : goal.returns-clause-damaged
returns-clause-damaged g c = λ page e tells. (c.if-top-root.false, c.sb_add.ensures.damaged page e tells)
