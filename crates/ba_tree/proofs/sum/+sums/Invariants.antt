use Rattle.std.proofs.Common.{◌+◌, ◌*◌}
use Rattle.ba_tree.proofs.sum.+sums.Given as goal

abbrev pub decreases-page_sum : goal.decreases-page_sum
decreases-page_sum g l = 4 * l.count + 1

abbrev pub decreases-part_sum : goal.decreases-part_sum
decreases-part_sum g l = 4 * l.count + 2

abbrev pub decreases-cut_sum : goal.decreases-cut_sum
decreases-cut_sum g l = 4 * l.count

abbrev pub decreases-low_sum : goal.decreases-low_sum
decreases-low_sum g l = 4 * l.low + 3
