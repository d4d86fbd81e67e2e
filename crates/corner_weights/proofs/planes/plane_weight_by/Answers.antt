use Rattle.std.proofs.Common.{refl}
use Rattle.corner_weights.specs.Corners.{object_corner}
use Rattle.corner_weights.proofs.Signed.{plane_weight_is}
use Rattle.corner_weights.proofs.planes.plane_weight_by.Goals as goal

pub returns : goal.returns
returns c =
    plane_weight_is c.args.params.now c.args.object.now c.in-Some.degree c.args.subset c.args.plane (object_corner c.args.object.now c.args.subset) c.from.result c.corner_sum.result c.sign.result
    c.in-Some.is refl c.from.ensures c.corner_sum.ensures c.sign.ensures
