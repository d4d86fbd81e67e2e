use Rattle.ba_tree.proofs.Laws.{any_order, balance, becoming, by_its_pages, in_map}
use Rattle.ba_tree.proofs.ba_index.BaIndexDomIndex.index_laws.Goals as goal

pub returns-clause-by_its_pages : goal.returns-clause-by_its_pages
returns-clause-by_its_pages c = by_its_pages c.index_laws.ensures.by_its_pages c.cuts_laws.ensures c.cuts_laws-2.ensures

pub returns-clause-balance : goal.returns-clause-balance
returns-clause-balance c = balance c.index_laws.ensures.balance c.cuts_laws.ensures c.cuts_laws-2.ensures

pub returns-clause-in_map : goal.returns-clause-in_map
returns-clause-in_map c = in_map c.index_laws.ensures.in_map c.cuts_laws.ensures c.cuts_laws-2.ensures

pub returns-clause-any_order : goal.returns-clause-any_order
returns-clause-any_order c = any_order c.index_laws.ensures.any_order c.cuts_laws.ensures c.cuts_laws-2.ensures

pub returns-clause-becoming : goal.returns-clause-becoming
returns-clause-becoming c = becoming c.index_laws.ensures.becoming
