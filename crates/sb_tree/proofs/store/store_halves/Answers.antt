use Rattle.sb_tree.proofs.Common.{rules}
use Rattle.sb_tree.proofs.Proper.{first_node, second_node}
use Rattle.sb_tree.proofs.Storing.{stored_halves, low_shown}
use Rattle.sb_tree.proofs.store.store_halves.Goals as goal

pub put_page-requires-clause-rules : goal.put_page-requires-clause-rules
put_page-requires-clause-rules g c = search (rules, second_node)

pub put_page-requires-2-clause-rules : goal.put_page-requires-2-clause-rules
put_page-requires-2-clause-rules g c = search (rules, first_node)

pub returns-clause-stored : goal.returns-clause-stored
returns-clause-stored g c = search (rules, stored_halves, low_shown)

pub returns-clause-second : goal.returns-clause-second
returns-clause-second g c = search (rules, low_shown)
