use Rattle.std.proofs.Common.{◌≡◌, ℕ, ◌^◌, ◌<◌, List, [], ◌∷◌, rules, sym, subst, arith}
use Rattle.corner_weights.specs.Corners.{corner_keys}
use Rattle.dom_index.specs.Points.{AreKeysBelow}
use Rattle.corner_forest.proofs.KeyBounds.{corner_keys_below}
use Rattle.span_planes.proofs.filling.corner_point.Goals as goal

pub returns-clause-below : goal.returns-clause-below
returns-clause-below c =
    let params = c.args.params.now in
    let event = c.args.event.now in
    let same : c.key_within.result ∷ c.key_within-2.result ∷ c.key_within-3.result ∷ [] ≡ corner_keys params.dims event.object event.event c.args.subset = search rules in
    let number = c.requires.event.number in
    let small : event.event < 2 ^ 32 = omega (arith, number) in
    subst (λ (keys : List ℕ). AreKeysBelow params.dims keys) (sym same) (corner_keys_below params event.object event.event c.args.subset c.requires.event.fits small)
