use Rattle.mvsb_tree.proofs.Costs.{low_directory, low_root}
use Rattle.mvsb_tree.proofs.Standing.{balance_stays, empty_balance, by_its_pages, all_there, any_order, empty_stands}
use Rattle.mvsb_tree.proofs.laws.mv_laws.Goals as goal

pub returns-clause-by_its_pages : goal.returns-clause-by_its_pages
returns-clause-by_its_pages c = by_its_pages c.tree_laws.ensures.by_its_pages

pub returns-clause-in_map : goal.returns-clause-in_map
returns-clause-in_map c = all_there c.tree_laws.ensures.in_map

pub returns-clause-any_order : goal.returns-clause-any_order
returns-clause-any_order c = any_order

pub returns-clause-empty : goal.returns-clause-empty
returns-clause-empty c = empty_stands c.tree_laws.ensures.empty

pub returns-clause-balance : goal.returns-clause-balance
returns-clause-balance c = balance_stays c.tree_laws.ensures.by_its_pages

pub returns-clause-empty_balance : goal.returns-clause-empty_balance
returns-clause-empty_balance c = empty_balance

pub returns-clause-low : goal.returns-clause-low
returns-clause-low c = λ pages tree points s few b. (low_directory pages tree points s few b, λ version fits. low_root pages tree points version s few b fits)
