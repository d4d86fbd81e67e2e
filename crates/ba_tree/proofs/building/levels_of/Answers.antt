use Rattle.std.proofs.Common.{sym}
use Rattle.ba_tree.proofs.Joining.{levels_few, levels_many}
use Rattle.ba_tree.proofs.building.levels_of.Goals as goal

pub returns-then-count-le-LEAF_POINTS : goal.returns-then-count-le-LEAF_POINTS
returns-then-count-le-LEAF_POINTS c = sym (levels_few c.args.count c.requires c.if-count-le-LEAF_POINTS.true)

pub returns-else-count-le-LEAF_POINTS : goal.returns-else-count-le-LEAF_POINTS
returns-else-count-le-LEAF_POINTS c = sym (levels_many c.args.count c.if-count-le-LEAF_POINTS.false)
