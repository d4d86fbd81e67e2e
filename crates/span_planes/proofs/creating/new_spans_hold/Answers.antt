use Rattle.span_planes.proofs.NoVersionSpans.{new_none, none_held}
use Rattle.span_planes.proofs.creating.new_spans_hold.Goals as goal

pub returns : goal.returns
returns g c = λ x params range dims new. none_held g.X.DomIndex c.index_laws.ensures.empty params range dims x (new_none c.created_holds.ensures params x range new)
