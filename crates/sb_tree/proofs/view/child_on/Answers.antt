use Rattle.sb_tree.proofs.Common.{ap, ◌∙◌}
use Rattle.sb_tree.proofs.Paths.{inner_child}
use Rattle.sb_tree.proofs.view.child_on.Goals as goal

pub returns : goal.returns
returns c = λ version cut. ap (λ e. e.child) (c.entry.ensures c.entry.result) ∙ inner_child c.args.view.now.entries.items c.args.begun version c.entry.result cut c.requires.0
