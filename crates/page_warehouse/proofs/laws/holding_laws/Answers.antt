use Rattle.page_warehouse.proofs.ByPages.{holds_by_pages, trees_by_pages}
use Rattle.page_warehouse.proofs.laws.holding_laws.Goals as goal

pub returns-clause-by_pages : goal.returns-clause-by_pages
returns-clause-by_pages g c = holds_by_pages g.X.DomIndex c.settling_laws.ensures.one

pub returns-clause-trees_by_pages : goal.returns-clause-trees_by_pages
returns-clause-trees_by_pages g c = trees_by_pages g.X.DomIndex c.settling_laws.ensures.one
