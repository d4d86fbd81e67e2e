use Rattle.std.proofs.Common.{length}
use Rattle.ba_tree.proofs.sides.+after_part.Given as goal

abbrev pub decreases-after_part : goal.decreases-after_part
decreases-after_part l = length l.nodes.now
