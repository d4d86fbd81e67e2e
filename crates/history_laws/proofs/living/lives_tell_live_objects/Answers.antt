use Rattle.history_laws.proofs.LivesTold.{in_order, tells_live}
use Rattle.history_laws.proofs.living.lives_tell_live_objects.Goals as goal

pub returns-clause-live : goal.returns-clause-live
returns-clause-live c = tells_live

pub returns-clause-in_order : goal.returns-clause-in_order
returns-clause-in_order c = in_order
