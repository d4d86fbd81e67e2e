use Rattle.page_space.proofs.Unique.{holds_one, holds_order}
use Rattle.page_space.proofs.laws.holds_one.Goals as goal

pub returns-clause-one : goal.returns-clause-one
returns-clause-one c = holds_one c.settling_laws.ensures.one c.one_spelling.ensures c.one_spelling-2.ensures

pub returns-clause-order : goal.returns-clause-order
returns-clause-order c = holds_order c.settling_laws.ensures.one
