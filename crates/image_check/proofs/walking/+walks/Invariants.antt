use Rattle.std.proofs.Common.{◌+◌, ◌*◌}
use Rattle.image_check.proofs.walking.+walks.Given as goal

abbrev pub decreases-walk_page : goal.decreases-walk_page
decreases-walk_page g l = 3 * l.count + 1

abbrev pub decreases-walk_nodes : goal.decreases-walk_nodes
decreases-walk_nodes g l = 3 * l.count + 2

abbrev pub decreases-walk_cut : goal.decreases-walk_cut
decreases-walk_cut g l = 3 * l.count
