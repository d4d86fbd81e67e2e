use Rattle.page_warehouse.proofs.Empty.{new_holds}
use Rattle.page_warehouse.proofs.laws.created_holds.Goals as goal

pub returns : goal.returns
returns g c = new_holds g.X.DomIndex c.table_laws.ensures.empty c.created_holds.ensures c.index_laws.ensures.empty
