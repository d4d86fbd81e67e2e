use Rattle.page_layout.specs.TableView.{table_node_in-typed}
use Rattle.page_layout.proofs.table_node.TableNodeSpelled.is_spelled.Goals as goal

pub returns-clause-typed : goal.returns-clause-typed
returns-clause-typed c = table_node_in-typed c.args.page.now c.bytes_of-bytes.ensures.bytes
