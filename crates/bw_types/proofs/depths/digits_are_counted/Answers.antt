use Rattle.bw_types.specs.DigitLaws.{powers_have_digits, digits_are_few, digits_reach, digits_grow, digits_unfold}
use Rattle.bw_types.proofs.depths.digits_are_counted.Goals as goal

pub returns-clause-many : goal.returns-clause-many
returns-clause-many c = powers_have_digits

pub returns-clause-few : goal.returns-clause-few
returns-clause-few c = digits_are_few

pub returns-clause-reach : goal.returns-clause-reach
returns-clause-reach c = digits_reach

pub returns-clause-grow : goal.returns-clause-grow
returns-clause-grow c = digits_grow

pub returns-clause-unfold : goal.returns-clause-unfold
returns-clause-unfold c = digits_unfold
