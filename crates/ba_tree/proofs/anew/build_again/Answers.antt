use Rattle.ba_tree.proofs.MadeAnew.{built_in_any_order}
use Rattle.ba_tree.proofs.anew.build_again.Goals as goal

pub returns-in-Ok-clause-built : goal.returns-in-Ok-clause-built
returns-in-Ok-clause-built g c = λ tells few order.
    built_in_any_order g.B.BorderTree (g.S.Pages.map c.args.stage.now) (g.S.Pages.map c.build_part.new.stage) c.in-Ok.child c.args.points.now c.may_be_built.new.points few
    c.may_be_built.ensures.permutation order (c.in-Ok.ensures.built tells)
