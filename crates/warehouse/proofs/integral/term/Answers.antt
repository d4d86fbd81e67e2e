use Rattle.std.proofs.Common.{rules, ◌≡◌, ◌∙◌, ap, [], pos, ◌*ℤ◌, slice_index_or, FitsSigned}
use Rattle.std.proofs.lemmas.Int.{to_z-of_z, wrapping_mul_is, int_wrap-mul_right}
use Rattle.std.specs.Int.{int_wrap, w64, w128}
use Rattle.bw_types.specs.Integral.{exponent_lists, common_moment}
use Rattle.warehouse.proofs.integral.term.Goals as goal

pub returns : goal.returns
returns c =
    let f : FitsSigned w128 c.from.result = search rules in
    let g : FitsSigned w128 c.common_moment.result = search rules in
    let coefficient : c.from.result ≡ slice_index_or c.args.object.now.coeffs c.args.k (pos 0) = let fits : FitsSigned w64 (slice_index_or c.args.object.now.coeffs c.args.k (pos 0)) = search rules in c.from.ensures ∙ to_z-of_z w64 _ fits in
    wrapping_mul_is w128 c.from.result c.common_moment.result f g
    ∙ ap (λ z. int_wrap w128 (c.from.result *ℤ z)) c.common_moment.ensures
    ∙ int_wrap-mul_right w128 c.from.result (common_moment c.args.params.now c.args.query.now c.args.object.now (slice_index_or (exponent_lists c.args.params.now.dims c.args.degree) c.args.k []))
    ∙ ap (λ z. int_wrap w128 (z *ℤ common_moment c.args.params.now c.args.query.now c.args.object.now (slice_index_or (exponent_lists c.args.params.now.dims c.args.degree) c.args.k []))) coefficient
