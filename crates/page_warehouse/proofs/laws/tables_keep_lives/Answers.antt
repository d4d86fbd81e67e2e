use Rattle.page_warehouse.proofs.Walked.{table_kept}
use Rattle.page_warehouse.proofs.laws.tables_keep_lives.Goals as goal

pub returns : goal.returns
returns g c = table_kept g.X.DomIndex c.table_laws.ensures.ascend
