use Rattle.mvsb_tree.proofs.DamageBefore.{tree_damaged_here}
use Rattle.mvsb_tree.proofs.Dropping.{dropped_here}
use Rattle.mvsb_tree.proofs.laws.freed_laws.Goals as goal

pub returns-clause-dropped : goal.returns-clause-dropped
returns-clause-dropped c = dropped_here

pub returns-clause-damaged : goal.returns-clause-damaged
returns-clause-damaged c = tree_damaged_here
