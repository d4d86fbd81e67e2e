use Rattle.history_laws.proofs.LivesTold.{tells_ids, tells_added}
use Rattle.history_laws.proofs.LastLives.{last_tells}
use Rattle.history_laws.proofs.living.last_lives_tell.Goals as goal

pub returns-clause-live : goal.returns-clause-live
returns-clause-live c = tells_ids

pub returns-clause-added : goal.returns-clause-added
returns-clause-added c = tells_added

pub returns-clause-last : goal.returns-clause-last
returns-clause-last c = last_tells
