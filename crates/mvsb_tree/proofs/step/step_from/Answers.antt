use Rattle.std.proofs.Common.{sym}
use Rattle.mvsb_tree.proofs.Stepping.{child_number}
use Rattle.mvsb_tree.proofs.step.step_from.Goals as goal

pub returns-clause-number : goal.returns-clause-number
returns-clause-number c = (child_number c.args.node.now c.args.place.key c.args.place.version c.in-Some.reached.child c.requires.rules (sym c.in-Some.ensures.child)).0
