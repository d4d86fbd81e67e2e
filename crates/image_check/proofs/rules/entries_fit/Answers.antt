use Rattle.std.proofs.Common.{subst, arith, rules, refl, IsTrue}
use Rattle.corner_weights.specs.PlaneSums.{EnteredFits}
use Rattle.corner_forest.specs.Stands.{HasSmallWeight}
use Rattle.image_check.proofs.LifeByLife.{all_at, all_more, all_taken}
use Rattle.image_check.proofs.rules.entries_fit.Goals as goal

pub returns-then-not-life_fits-clause-fits : goal.returns-then-not-life_fits-clause-fits
returns-then-not-life_fits-clause-fits c = (
  λ never. search rules,
  λ all. subst IsTrue c.if-not-life_fits.true (c.life_fits.ensures.fits.1 (all_at (EnteredFits c.args.params.now) c.args.lives.now c.loop-life.life-index _ c.loop-life-test.true all)),
)

pub loop-life-preserved : goal.loop-life-preserved
loop-life-preserved c = record {
  fits = all_more (EnteredFits c.args.params.now) c.args.lives.now c.loop-life.life-index _ c.loop-life-test.true c.loop-life.invariant.fits (c.life_fits.ensures.fits.0 c.if-not-life_fits.false);
  small = all_more HasSmallWeight c.args.lives.now c.loop-life.life-index _ c.loop-life-test.true c.loop-life.invariant.small c.life_fits.ensures.small;
}

pub returns-clause-fits : goal.returns-clause-fits
returns-clause-fits c = (λ yes. all_taken (EnteredFits c.args.params.now) c.args.lives.now c.loop-life.life-index (omega (arith, c.loop-life-test.false)) c.loop-life.invariant.fits, λ all. refl)

pub returns-clause-small : goal.returns-clause-small
returns-clause-small c = λ yes. all_taken HasSmallWeight c.args.lives.now c.loop-life.life-index (omega (arith, c.loop-life-test.false)) c.loop-life.invariant.small
