use Rattle.page_layout.specs.MvView.{mv_node_in-typed}
use Rattle.page_layout.proofs.mv_node.MvNodeSpelled.is_spelled.Goals as goal

pub returns-clause-typed : goal.returns-clause-typed
returns-clause-typed c = mv_node_in-typed c.args.page.now c.bytes_of-bytes.ensures.bytes
