use Rattle.page_layout.specs.SbView.{sb_node_in-typed}
use Rattle.page_layout.proofs.sb_node.SbNodeSpelled.is_spelled.Goals as goal

pub returns-clause-typed : goal.returns-clause-typed
returns-clause-typed c = sb_node_in-typed c.args.page.now c.bytes_of-bytes.ensures.bytes
