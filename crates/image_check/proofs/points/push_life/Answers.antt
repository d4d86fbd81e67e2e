use Rattle.corner_weights.specs.PlaneSums.{EnteredFits}
use Rattle.image_check.proofs.LifeByLife.{begun_of, ended_of}
use Rattle.image_check.proofs.points.push_life.Goals as goal

pub push_points-requires-clause-fits : goal.push_points-requires-clause-fits
push_points-requires-clause-fits c = begun_of (EnteredFits c.args.params.now) c.args.life.now c.requires.fits

pub push_points-requires-2-clause-fits : goal.push_points-requires-2-clause-fits
push_points-requires-2-clause-fits c = ended_of (EnteredFits c.args.params.now) c.args.life.now c.if-life-eq0.false c.requires.fits
