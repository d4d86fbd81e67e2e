use Rattle.std.proofs.Common.{◌≡◌, ◌∷◌, ◌∙◌, suc, inl, inr, List, IsSome, sym, ap, subst}
use Rattle.bw_types.specs.declared.point.Point.{Point}
use Rattle.ports.specs.Pages.{PageMap}
use Rattle.cut_parts.specs.Borders.{MayBeBuilt}
use Rattle.ba_tree.proofs.Within.{some_there}
use Rattle.ba_tree.proofs.leaf.leaf_split.Goals as goal

pub returns-in-Err-split_points-clause-damaged : goal.returns-in-Err-split_points-clause-damaged
returns-in-Err-split_points-clause-damaged g c = λ damaged e tells.
    let b = g.B.BorderTree in
    let m : PageMap = g.S.Pages.map c.args.stage.now in
    let points : List Point = c.in-Ok.points.items in
    let went = c.in-Ok.ensures.grows.went_on in
    let held = c.in-Ok.ensures.found tells in
    let here : IsSome (g.S.Pages.map c.stage_leaf.new.stage c.args.page) =
    subst (λ (a : PageMap). IsSome (a c.args.page)) (sym c.in-Ok.ensures.map) (some_there m c.args.page held.bytes held.there) in
    let all : c.as_mut_slice.result.now ≡ c.args.point.now ∷ points =
    c.as_mut_slice.ensures.value ∙ c.with_point-all.ensures ∙ ap (λ (ps : List Point). c.args.point.now ∷ ps) c.as_slice.ensures.value in
    elim (c.split_points.ensures.damaged damaged (c.in-Err-split_points.is ∙ e) (went.tells ∙ tells) here) [
      | inl none ↦ inl (none.0, inr (points, held, λ may. none.1 (subst (λ (ps : List Point). MayBeBuilt (suc b.DIMS) ps) (sym all) may)))
      | inr unordered ↦ inr (λ order. unordered (went.free_in_order tells order))
    ]
