use Rattle.corner_weights.proofs.ListLaw.{integral_by_planes}
use Rattle.corner_weights.proofs.integrals.integral_by_planes.Goals as goal

pub returns : goal.returns
returns c = integral_by_planes
