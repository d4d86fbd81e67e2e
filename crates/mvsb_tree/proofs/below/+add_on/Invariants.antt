use Rattle.mvsb_tree.proofs.below.+add_on.Given as goal

abbrev pub decreases-add_on : goal.decreases-add_on
decreases-add_on g l = l.node.now.level
