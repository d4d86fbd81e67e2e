use Rattle.dom_index.proofs.Standing.{none_damaged}
use Rattle.dom_index.proofs.point_list.PointListDomIndex.sum.Goals as goal

pub returns-clause-sound : goal.returns-clause-sound
returns-clause-sound g c = λ points page tells stands e.
    let why = c.sum_along.ensures.damaged page e tells in
    none_damaged c.args.tree.now.count (g.P.Pages.map c.args.pages.now) c.args.tree.now.root page stands.chain why.0 why.1
