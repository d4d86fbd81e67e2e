use Rattle.key_check.proofs.piece_walk.+walk_levels.Given as goal

abbrev pub decreases-walk_levels : goal.decreases-walk_levels
decreases-walk_levels g l = l.level
