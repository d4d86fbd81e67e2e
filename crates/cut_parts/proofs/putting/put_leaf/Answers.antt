use Rattle.cut_parts.proofs.Holding.{IsLeafOf, put_leaf}
use Rattle.cut_parts.proofs.putting.put_leaf.Goals as goal

pub returns-clause-put : goal.returns-clause-put
returns-clause-put g c =
    let made = c.leaf_of.ensures in
    let is : IsLeafOf c.leaf_of.result c.args.points.now = record { same = made.points; last = made.next; typed = made.typed; some = c.requires.many.0; few = c.requires.many.1 } in
    put_leaf c.put_page.result (g.S.Pages.tells c.args.stage.now) (g.S.Pages.map c.args.stage.now) (g.S.Pages.map c.put_page.new.stage) c.args.page c.leaf_of.result c.args.points.now
    is c.put_page.ensures.ok
