use Rattle.std.proofs.Common.{[], ◌∷◌, refl, arith}
use Rattle.tests_cuts.proofs.ThreePoints.{first_key_below, three_may_be_built}
use Rattle.tests_cuts.proofs.key_trees.three_points.Goals as goal

pub returns : goal.returns
returns c = three_may_be_built _ _ _ refl refl refl
    (record { key = first_key_below 5 (40 ∷ 1 ∷ []) (omega arith); version = omega arith; three = refl })
    (record { key = first_key_below 10 (30 ∷ 1 ∷ []) (omega arith); version = omega arith; three = refl })
    (record { key = first_key_below 20 (10 ∷ 1 ∷ []) (omega arith); version = omega arith; three = refl })
