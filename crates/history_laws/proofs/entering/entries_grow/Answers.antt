use Rattle.history_laws.proofs.More.{by_add, by_end}
use Rattle.history_laws.proofs.entering.entries_grow.Goals as goal

pub returns-clause-add : goal.returns-clause-add
returns-clause-add c = by_add

pub returns-clause-end : goal.returns-clause-end
returns-clause-end c = by_end
