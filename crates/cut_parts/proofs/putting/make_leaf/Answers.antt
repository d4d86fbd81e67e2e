use Rattle.cut_parts.proofs.Holding.{IsLeafOf, made_leaf}
use Rattle.cut_parts.proofs.putting.make_leaf.Goals as goal

pub returns-clause-made : goal.returns-clause-made
returns-clause-made g c =
    let made = c.leaf_of.ensures in
    let is : IsLeafOf c.leaf_of.result c.args.points.now = record { same = made.points; last = made.next; typed = made.typed; some = c.requires.many.0; few = c.requires.many.1 } in
    made_leaf c.make_page.result (g.S.Pages.tells c.args.stage.now) (g.S.Pages.map c.args.stage.now) (g.S.Pages.map c.make_page.new.stage) c.leaf_of.result c.args.points.now
    is c.make_page.ensures.made
