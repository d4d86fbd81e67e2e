use Rattle.page_layout.specs.PointView.{point_leaf_in-typed}
use Rattle.page_layout.proofs.point_leaf.PointLeafSpelled.is_spelled.Goals as goal

pub returns-clause-typed : goal.returns-clause-typed
returns-clause-typed c = point_leaf_in-typed c.args.page.now c.bytes_of-bytes.ensures.bytes
