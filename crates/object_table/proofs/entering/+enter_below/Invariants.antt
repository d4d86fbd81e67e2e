use Rattle.object_table.proofs.entering.+enter_below.Given as goal

abbrev pub decreases-enter_below : goal.decreases-enter_below
decreases-enter_below g l = l.level
