use Rattle.ba_tree.proofs.Cases.{balanced_at, damaged_at, gets_in_space, is_three, stands_at}
use Rattle.ba_tree.proofs.dominance.dom_sum.Goals as goal

pub returns-in-Ok-clause-whole : goal.returns-in-Ok-clause-whole
returns-in-Ok-clause-whole g c = λ tells page damaged.
    c.in-Ok.ensures.whole tells page (damaged_at _ _ 1 _ _ _ page c.if-dims-eq1.true damaged)

pub returns-in-Ok-tree_sum-clause-whole : goal.returns-in-Ok-tree_sum-clause-whole
returns-in-Ok-tree_sum-clause-whole g c = λ tells page damaged.
    c.in-Ok-tree_sum.ensures.whole tells page (damaged_at _ _ 2 _ _ _ page c.if-dims-eq2.true damaged)

pub returns-in-Err-tree_sum-2-clause-cost : goal.returns-in-Err-tree_sum-2-clause-cost
returns-in-Err-tree_sum-2-clause-cost g c = λ tells points stands balanced.
    let three = is_three c.args.dims c.requires.dims.0 c.requires.dims.1 c.if-dims-eq1.false c.if-dims-eq2.false in
    let stood = stands_at (g.P.Pages.map c.args.pages.now) c.args.dims 3 c.args.tree.now points three stands in
    let low = balanced_at (g.P.Pages.map c.args.pages.now) c.args.dims 3 c.args.tree.now three balanced in
    gets_in_space c.args.dims (g.P.Pages.gets c.args.pages.now) (g.P.Pages.gets c.tree_sum-2.new.pages) (g.P.Pages.map c.args.pages.now) c.args.tree.now points three stood
    (c.tree_sum-2.ensures.cost tells points stood low)

pub returns-in-Ok-tree_sum-2-clause-whole : goal.returns-in-Ok-tree_sum-2-clause-whole
returns-in-Ok-tree_sum-2-clause-whole g c = λ tells page damaged.
    let three = is_three c.args.dims c.requires.dims.0 c.requires.dims.1 c.if-dims-eq1.false c.if-dims-eq2.false in
    c.in-Ok-tree_sum-2.ensures.whole tells page (damaged_at _ _ 3 _ _ _ page three damaged)

pub returns-in-Ok-tree_sum-2-clause-cost : goal.returns-in-Ok-tree_sum-2-clause-cost
returns-in-Ok-tree_sum-2-clause-cost g c = λ tells points stands balanced.
    let three = is_three c.args.dims c.requires.dims.0 c.requires.dims.1 c.if-dims-eq1.false c.if-dims-eq2.false in
    let stood = stands_at (g.P.Pages.map c.args.pages.now) c.args.dims 3 c.args.tree.now points three stands in
    let low = balanced_at (g.P.Pages.map c.args.pages.now) c.args.dims 3 c.args.tree.now three balanced in
    gets_in_space c.args.dims (g.P.Pages.gets c.args.pages.now) (g.P.Pages.gets c.tree_sum-2.new.pages) (g.P.Pages.map c.args.pages.now) c.args.tree.now points three stood
    (c.tree_sum-2.ensures.cost tells points stood low)
