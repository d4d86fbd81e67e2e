use Rattle.std.proofs.Common.{rules, ◌≡◌, ◌≤◌, pos, ℕ, ◌+◌, ◌^◌, ◌<◌, length, get_or, List, [], ℤ, ◌*ℤ◌, arith, sym, ap, ◌∙◌, lit<, slice_index_or, w64, FitsSigned}
use Rattle.std.specs.List.{zip}
use Rattle.std.specs.Int.{w128}
use Rattle.std.proofs.lemmas.Int.{to_z-of_z}
use Rattle.std.proofs.lemmas.List.{take_all}
use Rattle.std.proofs.lemmas.Slice.Zip.{get_or-zip, length-zip}
use Rattle.bw_types.specs.ResidueLaws.{residue_of_small}
use Rattle.bw_types.specs.Residues.{residue}
use Rattle.bw_types.specs.Tally.{int_sum_by}
use Rattle.bw_types.specs.Integral.{exponent_lists}
use Rattle.corner_weights.specs.Corners.{object_corner}
use Rattle.corner_weights.specs.Planes.{corner_coefficient, plane_exponents}
use Rattle.corner_weights.proofs.Digits.{length-exponent_lists}
use Rattle.corner_weights.proofs.Steps.{sum_step, scaled}
use Rattle.corner_weights.proofs.planes.corner_sum.Goals as goal

pub loop-k-init : goal.loop-k-init
loop-k-init c = sym (residue_of_small 0 (lit< tt))

pub loop-k-preserved : goal.loop-k-preserved
loop-k-preserved c =
    let params = c.args.params.now in
    let coeffs = c.args.object.now.coeffs in
    let lists = exponent_lists params.dims c.args.degree in
    let fs : List ℕ = slice_index_or (plane_exponents params.dims c.args.degree) c.args.plane [] in
    let term = λ (p : ℤ × List ℕ). p.0 *ℤ corner_coefficient params (object_corner c.args.object.now c.args.subset) fs p.1 in
    let degree : c.args.degree ≤ 2 = rw c.requires.degree at c.requires.in_range.degree in
    let counted : c.coefficient_count-k-end.result ≡ (c.args.degree + 1) ^ params.dims = rw c.requires.degree at c.coefficient_count-k-end.ensures.count in
    let some : c.loop-k.k < length lists = omega (arith, length-exponent_lists params.dims c.args.degree c.requires.in_range.dims (omega arith)) in
    let all : c.loop-k.k < length coeffs = omega arith in
    let within : c.loop-k.k < length (zip coeffs lists) = rw (length-zip coeffs lists) (omega arith) in
    let at = get_or-zip coeffs lists c.loop-k.k (pos 0, []) all some in
    let fits : FitsSigned w64 (get_or coeffs c.loop-k.k (pos 0)) = search rules in
    let read : c.from.result ≡ get_or coeffs c.loop-k.k (pos 0) = c.from.ensures ∙ to_z-of_z w64 (get_or coeffs c.loop-k.k (pos 0)) fits in
    let wide : FitsSigned w128 c.from.result = search rules in
    let is_first : c.res_of-coefficient.result ≡ residue (get_or coeffs c.loop-k.k (pos 0)) = c.res_of-coefficient.ensures ∙ ap residue (to_z-of_z w128 c.from.result wide ∙ read) in
    let is : c.res_mul.result ≡ residue (term (get_or coeffs c.loop-k.k (pos 0), get_or lists c.loop-k.k [])) =
    scaled (get_or coeffs c.loop-k.k (pos 0)) (corner_coefficient params (object_corner c.args.object.now c.args.subset) fs (get_or lists c.loop-k.k [])) c.res_of-coefficient.result c.corner_coefficient.result c.res_mul.result is_first c.corner_coefficient.ensures c.res_mul.ensures in
    sum_step term (zip coeffs lists) c.loop-k.k (pos 0, []) c.loop-k.total c.res_mul.result c.res_add-total.result within c.loop-k.invariant (is ∙ ap (λ p. residue (term p)) (sym at)) c.res_add-total.ensures

pub returns : goal.returns
returns c =
    let params = c.args.params.now in
    let coeffs = c.args.object.now.coeffs in
    let lists = exponent_lists params.dims c.args.degree in
    let fs : List ℕ = slice_index_or (plane_exponents params.dims c.args.degree) c.args.plane [] in
    let term = λ (p : ℤ × List ℕ). p.0 *ℤ corner_coefficient params (object_corner c.args.object.now c.args.subset) fs p.1 in
    let degree : c.args.degree ≤ 2 = rw c.requires.degree at c.requires.in_range.degree in
    let counted : c.coefficient_count-k-end.result ≡ (c.args.degree + 1) ^ params.dims = rw c.requires.degree at c.coefficient_count-k-end.ensures.count in
    let past : length (zip coeffs lists) ≤ c.loop-k.k =
    rw (length-zip coeffs lists) (omega (arith, length-exponent_lists params.dims c.args.degree c.requires.in_range.dims (omega arith))) in
    c.loop-k.invariant ∙ ap (λ xs. residue (int_sum_by term xs)) (take_all c.loop-k.k (zip coeffs lists) past)
