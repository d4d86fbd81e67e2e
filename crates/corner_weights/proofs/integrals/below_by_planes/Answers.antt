use Rattle.corner_weights.proofs.BelowCorner.{below_by_planes}
use Rattle.corner_weights.proofs.integrals.below_by_planes.Goals as goal

pub returns : goal.returns
returns c = below_by_planes
