use Rattle.std.proofs.Common.{◌+◌, ◌*◌}
use Rattle.ba_tree.proofs.collecting.+collects.Given as goal

abbrev pub decreases-collect_page : goal.decreases-collect_page
decreases-collect_page g l = 3 * l.count + 1

abbrev pub decreases-collect_nodes : goal.decreases-collect_nodes
decreases-collect_nodes g l = 3 * l.count + 2

abbrev pub decreases-collect_cut : goal.decreases-collect_cut
decreases-collect_cut g l = 3 * l.count
