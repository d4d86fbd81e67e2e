use Rattle.std.proofs.Common.{◌≡◌, ℕ, suc, ◌+◌, ◌∙◌, sym, subst, List, arith, rules}
use Rattle.bw_types.specs.declared.point.Point.{Point}
use Rattle.cut_parts.specs.Borders.{MayBeBuilt}
use Rattle.ba_tree.proofs.Begun.{begun_of}
use Rattle.ba_tree.proofs.border.build_border.Goals as goal

pub build-requires : goal.build-requires
build-requires g c =
    let dims : c.DIMS.result + 1 ≡ suc g.B.BorderTree.DIMS = let d = c.DIMS.ensures in omega (arith, d) in
    let may : MayBeBuilt (suc g.B.BorderTree.DIMS) c.may_be_built.new.points = subst (λ (n : ℕ). MayBeBuilt n c.may_be_built.new.points) dims (c.may_be_built.ensures.built (search rules)) in
    let few = c.border_laws.ensures.dims.1 in
    record {
      points = subst (λ (ps : List Point). MayBeBuilt g.B.BorderTree.DIMS ps) (sym (c.as_mut_slice.ensures.value ∙ c.in-Ok.ensures))
          (c.points_may_be_built.ensures.border g.B.BorderTree.DIMS c.args.dimension c.may_be_built.new.points c.requires.dimension (omega (arith, few)) may);
    }

pub returns-clause-begun : goal.returns-clause-begun
returns-clause-begun g c = λ tells others point is.
    begun_of g.B.BorderTree c.border_laws.ensures.laws (g.S.Pages.map c.args.stage.now) (g.S.Pages.map c.build.new.stage) c.args.dimension c.in-Ok-build.begun
    c.args.points.now c.may_be_built.new.points c.as_mut_slice.result.now others point is c.may_be_built.ensures.permutation
    (c.as_mut_slice.ensures.value ∙ c.in-Ok.ensures) (c.in-Ok-build.ensures.built tells)
