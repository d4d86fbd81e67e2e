use Rattle.std.proofs.Common.{length}
use Rattle.cut_parts.proofs.searching.+region_in.Given as goal

abbrev pub decreases-region_in : goal.decreases-region_in
decreases-region_in l = length l.nodes.now
