use Rattle.corner_weights.specs.PlaneSums.{EnteredFits}
use Rattle.image_check.proofs.LifeByLife.{all_at}
use Rattle.image_check.proofs.points.points_of.Goals as goal

pub push_life-requires-clause-fits : goal.push_life-requires-clause-fits
push_life-requires-clause-fits c = all_at (EnteredFits c.args.params.now) c.args.lives.now c.loop-life.life-index _ c.loop-life-test.true c.requires.fits
