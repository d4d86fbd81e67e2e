use Rattle.sb_tree.proofs.Paths.{inner_child}
use Rattle.sb_tree.proofs.entries.child_before.Goals as goal

pub returns : goal.returns
returns c = λ version cut. inner_child c.args.entries.now c.args.begun version _ cut c.requires.0
