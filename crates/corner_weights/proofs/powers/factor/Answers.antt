use Rattle.corner_weights.proofs.Steps.{constant_is, highest_is}
use Rattle.corner_weights.proofs.powers.factor.Goals as goal

pub returns-then-f-eq0-clause-some : goal.returns-then-f-eq0-clause-some
returns-then-f-eq0-clause-some c = λ at is_there. constant_is c.args.e c.args.f at c.args.at_corner c.res_neg.result c.if-f-eq0.true is_there c.res_neg.ensures

pub returns-then-f-e-clause-some : goal.returns-then-f-e-clause-some
returns-then-f-e-clause-some c = λ at is_there. highest_is c.args.e c.args.f at c.from.result c.if-f-e.true c.from.ensures
