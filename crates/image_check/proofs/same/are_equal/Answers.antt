use Rattle.image_check.proofs.InOrder.{points_decide}
use Rattle.image_check.proofs.same.are_equal.Goals as goal

pub returns : goal.returns
returns c = points_decide c.args.points.now c.args.others.now c.eq.result c.eq.ensures
