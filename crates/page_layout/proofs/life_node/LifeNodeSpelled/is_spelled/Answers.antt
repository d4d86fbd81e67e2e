use Rattle.page_layout.specs.LifeView.{life_node_in-typed}
use Rattle.page_layout.proofs.life_node.LifeNodeSpelled.is_spelled.Goals as goal

pub returns-clause-typed : goal.returns-clause-typed
returns-clause-typed c = life_node_in-typed c.args.page.now c.bytes_of-bytes.ensures.bytes
