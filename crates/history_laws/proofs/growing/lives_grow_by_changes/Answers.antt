use Rattle.history_laws.proofs.LivesGrown.{lives_grow, numbers_grow}
use Rattle.history_laws.proofs.growing.lives_grow_by_changes.Goals as goal

pub returns-clause-grow : goal.returns-clause-grow
returns-clause-grow c = lives_grow

pub returns-clause-numbers : goal.returns-clause-numbers
returns-clause-numbers c = numbers_grow
