use Rattle.std.proofs.Common.{◌+◌, ◌*◌, length}
use Rattle.ba_tree.proofs.building.+builds.Given as goal

abbrev pub decreases-build_page : goal.decreases-build_page
decreases-build_page g l = 4 * length l.points.now + 1

abbrev pub decreases-build_nodes : goal.decreases-build_nodes
decreases-build_nodes g l = 4 * length l.points.now + 2

abbrev pub decreases-build_cut : goal.decreases-build_cut
decreases-build_cut g l = 4 * length l.points.now
