use Rattle.std.proofs.Common.{◌≡◌, ℕ, ◌^◌, ◌<◌, List, [], ◌∷◌, rules, sym, subst}
use Rattle.corner_weights.specs.Corners.{corner_keys}
use Rattle.dom_index.specs.Points.{AreKeysBelow}
use Rattle.corner_forest.proofs.KeyBounds.{corner_keys_below}
use Rattle.corner_forest.proofs.points.corner_point.Goals as goal

pub returns-clause-below : goal.returns-clause-below
returns-clause-below c =
    let same : c.key_within.result ∷ c.key_within-2.result ∷ c.key_within-3.result ∷ [] ≡ corner_keys c.args.params.now.dims c.args.object.now c.args.number c.args.subset = search rules in
    let small : c.args.number < 2 ^ 32 = c.ranges.number.fits in
    subst (λ (keys : List ℕ). AreKeysBelow c.args.params.now.dims keys) (sym same)
    (corner_keys_below c.args.params.now c.args.object.now c.args.number c.args.subset c.requires.fits small)
