use Rattle.std.proofs.Common.{◌+◌, ◌*◌}
use Rattle.ba_tree.proofs.adding.+adds.Given as goal

abbrev pub decreases-page_add : goal.decreases-page_add
decreases-page_add g l = 3 * l.count + 1

abbrev pub decreases-part_add : goal.decreases-part_add
decreases-part_add g l = 3 * l.count + 2

abbrev pub decreases-cut_add : goal.decreases-cut_add
decreases-cut_add g l = 3 * l.count
