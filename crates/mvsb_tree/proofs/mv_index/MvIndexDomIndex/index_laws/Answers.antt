use Rattle.mvsb_tree.proofs.Indexing.{one_growth}
use Rattle.mvsb_tree.proofs.mv_index.MvIndexDomIndex.index_laws.Goals as goal

pub returns-clause-by_its_pages : goal.returns-clause-by_its_pages
returns-clause-by_its_pages c = λ pages others dims tree points s h. c.mv_laws.ensures.by_its_pages pages others tree points s h

pub returns-clause-balance : goal.returns-clause-balance
returns-clause-balance c = λ pages others dims tree points s h b. c.mv_laws.ensures.balance pages others tree points s h b

pub returns-clause-in_map : goal.returns-clause-in_map
returns-clause-in_map c = λ pages dims tree points s. c.mv_laws.ensures.in_map pages tree points s

pub returns-clause-growth : goal.returns-clause-growth
returns-clause-growth c = λ dims levels count some few. one_growth dims count some few

pub returns-clause-becoming : goal.returns-clause-becoming
returns-clause-becoming c = λ pages dims tree new point becomes. becomes.grown
