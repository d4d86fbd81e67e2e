use Rattle.span_planes.proofs.SpanOpened.{spans_by_pages}
use Rattle.span_planes.proofs.laws.spans_are_held_by_pages.Goals as goal

pub returns : goal.returns
returns g c = spans_by_pages g.X.DomIndex c.settling_laws.ensures.one
