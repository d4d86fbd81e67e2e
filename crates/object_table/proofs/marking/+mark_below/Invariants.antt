use Rattle.object_table.proofs.marking.+mark_below.Given as goal

abbrev pub decreases-mark_below : goal.decreases-mark_below
decreases-mark_below g l = l.level
