use Rattle.std.proofs.Common.{◌∙◌, take, drop}
use Rattle.ba_tree.proofs.LeafHalves.{halves_put}
use Rattle.ba_tree.proofs.leaf.put_halves.Goals as goal

pub returns-in-Ok-make_leaf-clause-halves : goal.returns-in-Ok-make_leaf-clause-halves
returns-in-Ok-make_leaf-clause-halves g c = λ tells.
    let there = c.in-Ok.ensures.grows.went_on.tells ∙ tells in
    let put = c.in-Ok-put_leaf.ensures.grows.went_on.tells ∙ there in
    let at = c.split_at.ensures in
    halves_put (g.S.Pages.map c.args.stage.now) (g.S.Pages.map c.look_again.new.stage) (g.S.Pages.map c.put_leaf.new.stage) (g.S.Pages.map c.make_leaf.new.stage) c.args.page c.in-Ok-make_leaf.high
    (take 32 c.args.points.now) (drop 32 c.args.points.now) c.in-Ok.ensures.map
    (rw at.front at c.in-Ok-put_leaf.ensures.put there) (c.in-Ok-put_leaf.ensures.change there) (rw at.back at c.in-Ok-make_leaf.ensures.made put) (c.in-Ok-make_leaf.ensures.change put)
