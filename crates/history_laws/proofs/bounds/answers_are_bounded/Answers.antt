use Rattle.history_laws.proofs.AnswerBounds.{count_at_bound, integral_at_bound, sum_at_bound}
use Rattle.history_laws.proofs.bounds.answers_are_bounded.Goals as goal

pub returns-clause-sums : goal.returns-clause-sums
returns-clause-sums c = sum_at_bound

pub returns-clause-counts : goal.returns-clause-counts
returns-clause-counts c = count_at_bound

pub returns-clause-integrals : goal.returns-clause-integrals
returns-clause-integrals c = integral_at_bound
