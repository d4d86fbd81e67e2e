use Rattle.std.proofs.Common.{◌≡◌, ◌++◌, List, map, true, subst, ◌∙◌, ◌↔◌, IsTrue}
use Rattle.key_check.specs.Sums.{Vanish, opposite_corner}
use Rattle.key_check.specs.declared.corner.Corner.{Corner}
use Rattle.key_check.proofs.Opposites.{over_keys}
use Rattle.key_check.proofs.points.sum_over_keys.Goals as goal

pub returns : goal.returns
returns c =
    let law = over_keys c.args.corners.items c.args.points.now c.in_ok-push_opposites.ensures.typed in
    let same : c.as_mut_slice.result.now ≡ c.args.corners.items ++ map (opposite_corner true) c.args.points.now = c.as_mut_slice.ensures.value ∙ c.in_ok-push_opposites.ensures.items in
    let told : IsTrue c.vanish.result ↔ Vanish (c.args.corners.items ++ map (opposite_corner true) c.args.points.now) =
    subst (λ (cs : List Corner). IsTrue c.vanish.result ↔ Vanish cs) same c.vanish.ensures in
    (λ yes. law.0 (told.0 yes), λ all. told.1 (law.1 all))
