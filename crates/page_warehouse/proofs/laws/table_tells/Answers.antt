use Rattle.page_warehouse.proofs.Telling.{one_history, table_told}
use Rattle.page_warehouse.proofs.laws.table_tells.Goals as goal

pub returns-clause-table : goal.returns-clause-table
returns-clause-table g c = table_told g.X.DomIndex c.table_tells_history.ensures.told

pub returns-clause-one : goal.returns-clause-one
returns-clause-one g c = one_history g.X.DomIndex c.table_tells_history.ensures.told c.holds_one.ensures.one
