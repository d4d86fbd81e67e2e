use Rattle.corner_forest.proofs.KeyBounds.{meet_corner_below}
use Rattle.corner_forest.proofs.meet.value_at.Goals as goal

pub sum-requires-clause-keys : goal.sum-requires-clause-keys
sum-requires-clause-keys g c = meet_corner_below c.args.params.now c.args.query.now c.args.subset c.in-Some.keys c.requires.query c.in-Some.ensures
