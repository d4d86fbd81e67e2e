use Rattle.std.proofs.Common.{◌+◌, ◌*◌}
use Rattle.ba_tree.proofs.dropping.+drops.Given as goal

abbrev pub decreases-drop_page : goal.decreases-drop_page
decreases-drop_page g l = 3 * l.count + 1

abbrev pub decreases-drop_nodes : goal.decreases-drop_nodes
decreases-drop_nodes g l = 3 * l.count + 2

abbrev pub decreases-drop_cut : goal.decreases-drop_cut
decreases-drop_cut g l = 3 * l.count
