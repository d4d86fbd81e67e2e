use Rattle.ba_tree.proofs.KeyTreeLaws.{holds_for_trees}
use Rattle.ba_tree.proofs.key_tree.KeyTreeBorderTree.border_laws.Goals as goal

pub returns-clause-laws : goal.returns-clause-laws
returns-clause-laws c =
    holds_for_trees c.mv_laws.ensures.by_its_pages c.mv_laws.ensures.in_map c.mv_laws.ensures.any_order c.mv_laws.ensures.empty c.mv_laws.ensures.balance c.mv_laws.ensures.empty_balance
