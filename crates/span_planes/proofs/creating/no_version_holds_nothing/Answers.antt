use Rattle.span_planes.proofs.NoVersionSpans.{held_none, none_held}
use Rattle.span_planes.proofs.creating.no_version_holds_nothing.Goals as goal

pub returns : goal.returns
returns g c = λ x params range dims. (
  λ none. none_held g.X.DomIndex c.index_laws.ensures.empty params range dims x none,
  λ held. held_none g.X.DomIndex c.index_laws.ensures.counted params x held,
)
