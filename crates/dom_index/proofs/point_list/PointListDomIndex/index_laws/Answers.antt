use Rattle.dom_index.proofs.Standing.{by_its_pages, in_map, any_order, growth_few}
use Rattle.dom_index.proofs.point_list.PointListDomIndex.index_laws.Goals as goal

pub returns-clause-by_its_pages : goal.returns-clause-by_its_pages
returns-clause-by_its_pages c = by_its_pages

pub returns-clause-in_map : goal.returns-clause-in_map
returns-clause-in_map c = in_map

pub returns-clause-any_order : goal.returns-clause-any_order
returns-clause-any_order c = any_order

pub returns-clause-growth : goal.returns-clause-growth
returns-clause-growth c = growth_few
