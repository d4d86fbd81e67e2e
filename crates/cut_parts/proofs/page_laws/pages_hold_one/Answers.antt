use Rattle.cut_parts.proofs.Held.{leaves_hold_points, pages_hold_nodes}
use Rattle.cut_parts.proofs.page_laws.pages_hold_one.Goals as goal

pub returns-clause-cuts : goal.returns-clause-cuts
returns-clause-cuts c = pages_hold_nodes

pub returns-clause-leaf : goal.returns-clause-leaf
returns-clause-leaf c = leaves_hold_points
