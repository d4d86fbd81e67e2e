use Rattle.sb_tree.proofs.Standing.{by_its_pages, any_order, root_there}
use Rattle.sb_tree.proofs.Growing.{few_levels}
use Rattle.sb_tree.proofs.laws.tree_laws.Goals as goal

pub returns-clause-by_its_pages : goal.returns-clause-by_its_pages
returns-clause-by_its_pages c = by_its_pages

pub returns-clause-in_map : goal.returns-clause-in_map
returns-clause-in_map c = λ pages tree points s. root_there tree.levels pages tree.root s.nodes

pub returns-clause-any_order : goal.returns-clause-any_order
returns-clause-any_order c = any_order

pub returns-clause-low : goal.returns-clause-low
returns-clause-low c = few_levels
