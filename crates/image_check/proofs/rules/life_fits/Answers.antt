use Rattle.std.proofs.Common.{◌^◌, ◌∙◌, sym}
use Rattle.std.proofs.lemmas.Bool.{false≢true, lt-ltb, ltb-true}
use Rattle.corner_weights.specs.PlaneSums.{EnteredFits}
use Rattle.image_check.proofs.LifeByLife.{all_one, all_two, begun_of, ended_of}
use Rattle.image_check.proofs.rules.life_fits.Goals as goal

pub returns-then-life-eq0-clause-fits : goal.returns-then-life-eq0-clause-fits
returns-then-life-eq0-clause-fits c =
    let fits = EnteredFits c.args.params.now in
    let life = c.args.life.now in
    (λ yes. all_one fits life c.if-life-eq0.true (c.begun_fits.ensures.0 yes), λ all. c.begun_fits.ensures.1 (begun_of fits life all))

pub returns-then-begun_fits-clause-fits : goal.returns-then-begun_fits-clause-fits
returns-then-begun_fits-clause-fits c =
    let fits = EnteredFits c.args.params.now in
    let life = c.args.life.now in
    let begun = c.begun_fits-2.ensures.0 c.if-begun_fits.true in
    (λ yes. all_two fits life c.if-life-eq0.false begun (begun.0, ltb-true life.withdraw_event (2 ^ 28) yes), λ all. lt-ltb life.withdraw_event (2 ^ 28) (ended_of fits life c.if-life-eq0.false all).1)

pub returns-else-begun_fits-clause-fits : goal.returns-else-begun_fits-clause-fits
returns-else-begun_fits-clause-fits c =
    let fits = EnteredFits c.args.params.now in
    let life = c.args.life.now in
    (λ yes. absurd (false≢true (sym c.if-begun_fits.false ∙ yes)), λ all. c.begun_fits-2.ensures.1 (begun_of fits life all))
