use Rattle.history_laws.proofs.Staging.{grows, begins}
use Rattle.history_laws.proofs.lawful.histories_grow_by_lawful_batches.Goals as goal

pub returns-clause-grows : goal.returns-clause-grows
returns-clause-grows c = grows

pub returns-clause-begins : goal.returns-clause-begins
returns-clause-begins c = begins
