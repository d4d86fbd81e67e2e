use Rattle.std.proofs.Common.{◌≡◌, ℕ, suc, inl, inr, Option, ◌∷◌, ◌∙◌, sym, ap, subst, List, arith}
use Rattle.bw_types.specs.declared.point.Point.{Point}
use Rattle.ports.specs.Pages.{PageMap}
use Rattle.cut_parts.specs.Borders.{MayBeBuilt}
use Rattle.cut_parts.specs.Parts.{points_of}
use Rattle.cut_parts.specs.Reach.{IsDamagedBegun}
use Rattle.cut_parts.proofs.Held.{leaves_hold_points}
use Rattle.ba_tree.specs.Additions.{BorderBegun}
use Rattle.ba_tree.proofs.Begun.{leaf_held}
use Rattle.ba_tree.proofs.border.begin_border.Goals as goal

pub returns-in-Ok-build_border-clause-begun : goal.returns-in-Ok-build_border-clause-begun
returns-in-Ok-build_border-clause-begun g c = λ tells side stood begins.
    let m : PageMap = g.S.Pages.map c.args.stage.now in
    let held = leaf_held g.B.BorderTree m side c.in-Some.leaf 64 (omega arith) stood (sym begins ∙ c.in-Some.is) in
    let same = leaves_hold_points m c.in-Some.leaf c.in-Ok.points.items (points_of side) (c.in-Ok.ensures.found tells) held.0 in
    let all = c.as_mut_slice.ensures.value ∙ c.with_point-all.ensures ∙ ap (λ (ps : List Point). c.args.point.now ∷ ps) (c.as_slice.ensures.value ∙ same) in
    subst (λ (n : PageMap). BorderBegun g.B.BorderTree n (g.S.Pages.map c.build_border.new.stage) c.args.dimension c.in-Ok-build_border.begun (points_of side) c.args.point.now) c.in-Ok.ensures.map
    (c.in-Ok-build_border.ensures.begun (c.in-Ok.ensures.grows.went_on.tells ∙ tells) (points_of side) c.args.point.now all)

pub returns-in-Err-build_border-clause-damaged : goal.returns-in-Err-build_border-clause-damaged
returns-in-Err-build_border-clause-damaged g c = λ damaged e tells.
    let b = g.B.BorderTree in
    let m : PageMap = g.S.Pages.map c.args.stage.now in
    let points : List Point = c.in-Ok.points.items in
    let went = c.in-Ok.ensures.grows.went_on in
    let held = c.in-Ok.ensures.found tells in
    let all : c.as_mut_slice.result.now ≡ c.args.point.now ∷ points =
    c.as_mut_slice.ensures.value ∙ c.with_point-all.ensures ∙ ap (λ (ps : List Point). c.args.point.now ∷ ps) c.as_slice.ensures.value in
    elim (c.build_border.ensures.damaged damaged (c.in-Err-build_border.is ∙ e) (went.tells ∙ tells)) [
      | inl none ↦ inl (subst (λ (o : Option ℕ). IsDamagedBegun (suc b.DIMS) c.args.point.now damaged m c.args.page o) (sym c.in-Some.is)
          (inr (none.0, (points, held, λ may. none.1 (subst (λ (ps : List Point). MayBeBuilt (suc b.DIMS) ps) (sym all) may)))))
      | inr unordered ↦ inr (λ order. unordered (went.free_in_order tells order))
    ]
