use Rattle.cut_parts.proofs.Trees.{trees_hold}
use Rattle.cut_parts.proofs.laws.cuts_laws.Goals as goal

pub returns : goal.returns
returns g c = trees_hold g.B.BorderTree c.border_laws.ensures.laws
