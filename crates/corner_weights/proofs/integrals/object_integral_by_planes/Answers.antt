use Rattle.corner_weights.proofs.ObjectLaw.{object_integral_by_planes}
use Rattle.corner_weights.proofs.integrals.object_integral_by_planes.Goals as goal

pub returns : goal.returns
returns c = object_integral_by_planes
