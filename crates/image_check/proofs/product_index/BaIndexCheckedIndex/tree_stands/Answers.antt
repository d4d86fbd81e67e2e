use Rattle.std.proofs.Common.{IsTrue, sym}
use Rattle.image_check.proofs.Cases.{decided_at}
use Rattle.image_check.proofs.product_index.BaIndexCheckedIndex.tree_stands.Goals as goal

pub returns-in-1-clause-stands : goal.returns-in-1-clause-stands
returns-in-1-clause-stands g c =
    decided_at (IsTrue (g.P.Pages.tells c.args.pages.now)) (g.P.Pages.map c.args.pages.now) 1 c.args.dims c.args.tree.now c.args.points.now c.key_tree_stands.result (sym c.in-1.is) c.key_tree_stands.ensures.stands
