use Rattle.corner_weights.proofs.CornerDifferences.{live_by_corners}
use Rattle.corner_weights.proofs.integrals.integral_by_corners.Goals as goal

pub returns : goal.returns
returns c params h version q range fits = live_by_corners params h version q range.some_dims range.dims fits
