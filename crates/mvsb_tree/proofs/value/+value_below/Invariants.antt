use Rattle.mvsb_tree.proofs.value.+value_below.Given as goal

abbrev pub decreases-value_below : goal.decreases-value_below
decreases-value_below g l = l.level
