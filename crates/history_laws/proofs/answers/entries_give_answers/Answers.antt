use Rattle.bw_types.specs.Integral.{integral_over}
use Rattle.history_laws.proofs.Live.{by_count, by_sum, count_live}
use Rattle.history_laws.proofs.answers.entries_give_answers.Goals as goal

pub returns-clause-live : goal.returns-clause-live
returns-clause-live c = count_live c.lives_tell_live_objects.ensures.live c.lives_tell_live_objects.ensures.in_order

pub returns-clause-sum : goal.returns-clause-sum
returns-clause-sum c = by_sum c.lives_tell_live_objects.ensures.live c.lives_tell_live_objects.ensures.in_order

pub returns-clause-count : goal.returns-clause-count
returns-clause-count c = by_count c.lives_tell_live_objects.ensures.live c.lives_tell_live_objects.ensures.in_order

pub returns-clause-integral : goal.returns-clause-integral
returns-clause-integral c = λ params h version q. count_live c.lives_tell_live_objects.ensures.live c.lives_tell_live_objects.ensures.in_order (integral_over params q) h version
