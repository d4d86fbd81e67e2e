use Rattle.std.proofs.Common.{◌≡◌, ◌++◌, List, ap, sym, ◌∙◌, subst}
use Rattle.std.proofs.lemmas.List.Sorted.{IsPermutation-sym}
use Rattle.bw_types.specs.declared.point.Point.{Point}
use Rattle.cut_parts.specs.Borders.{MayBeBuilt}
use Rattle.cut_parts.proofs.Orders.{may_in_any_order}
use Rattle.image_check.proofs.same.are_buildable.Goals as goal

pub returns : goal.returns
returns c =
    let dims = c.args.dims in
    let copied : c.as_mut_slice.result.now ≡ c.args.points.now =
    c.as_mut_slice.ensures.value ∙ (c.in_ok-extend_from_slice.ensures.items ∙ ap (λ (ps : List Point). ps ++ c.args.points.now) c.new-copy.ensures.items) in (
      λ yes. subst (λ (ps : List Point). MayBeBuilt dims ps) copied
          (may_in_any_order dims c.may_be_built.new.points c.as_mut_slice.result.now
          (IsPermutation-sym c.as_mut_slice.result.now c.may_be_built.new.points c.may_be_built.ensures.permutation) (c.may_be_built.ensures.built yes)),
      λ may. c.may_be_built.ensures.only (subst (λ (ps : List Point). MayBeBuilt dims ps) (sym copied) may),
    )
