use Rattle.std.proofs.Common.{◌≡◌, ◌+◌, ℕ, ℤ, pos, List, [], ◌^◌, ◌*◌, ◌-◌, ◌<◌, ◌≤◌, ◌∙◌, ap, nat_abs, length, get_or, min, arith, rules, w64, FitsSigned}
use Rattle.std.proofs.lemmas.Int.{to_z-of_z}
use Rattle.std.specs.List.{zip, sum_by}
use Rattle.std.proofs.lemmas.List.{take_all}
use Rattle.std.proofs.lemmas.Slice.Zip.{get_or-zip, length-zip}
use Rattle.bw_types.specs.Integral.{exponent_lists}
use Rattle.bw_types.specs.Mass.{box_reach}
use Rattle.corner_weights.proofs.Digits.{length-exponent_lists}
use Rattle.corner_weights.proofs.Capped.{sum_step}
use Rattle.corner_weights.proofs.sums.capped_mass.Goals as goal

pub loop-k-preserved : goal.loop-k-preserved
loop-k-preserved c =
    let params = c.args.params.now in
    let coeffs = c.args.object.now.coeffs in
    let lists = exponent_lists params.dims c.args.degree in
    let term = λ (p : ℤ × List ℕ). nat_abs p.0 * box_reach params c.args.object.now p.1 in
    let degree : c.args.degree ≤ 2 = rw c.requires.degree at c.requires.in_range.degree in
    let counted : c.coefficient_count-k-end.result ≡ (c.args.degree + 1) ^ params.dims = rw c.requires.degree at c.coefficient_count-k-end.ensures.count in
    let some : c.loop-k.k < length lists = omega (arith, length-exponent_lists params.dims c.args.degree c.requires.in_range.dims (omega arith)) in
    let all : c.loop-k.k < length coeffs = omega arith in
    let within : c.loop-k.k < length (zip coeffs lists) = rw (length-zip coeffs lists) (omega arith) in
    let at = get_or-zip coeffs lists c.loop-k.k (pos 0, []) all some in
    let fits : FitsSigned w64 (get_or coeffs c.loop-k.k (pos 0)) = search rules in
    let size : c.from-size.result ≡ nat_abs (get_or coeffs c.loop-k.k (pos 0)) =
    c.from-size.ensures ∙ c.unsigned_abs.ensures.value ∙ ap nat_abs (to_z-of_z w64 (get_or coeffs c.loop-k.k (pos 0)) fits) in
    sum_step term (zip coeffs lists) c.loop-k.k (pos 0, []) c.loop-k.total (nat_abs (get_or coeffs c.loop-k.k (pos 0))) (box_reach params c.args.object.now (get_or lists c.loop-k.k []))
    c.from-size.result c.capped_reach.result c.saturating_mul.result c.saturating_add-total.result (2 ^ 128 - 1)
    within (ap term at) c.loop-k.invariant size c.capped_reach.ensures c.saturating_mul.ensures c.saturating_add-total.ensures

pub returns : goal.returns
returns c =
    let params = c.args.params.now in
    let coeffs = c.args.object.now.coeffs in
    let lists = exponent_lists params.dims c.args.degree in
    let degree : c.args.degree ≤ 2 = rw c.requires.degree at c.requires.in_range.degree in
    let counted : c.coefficient_count-k-end.result ≡ (c.args.degree + 1) ^ params.dims = rw c.requires.degree at c.coefficient_count-k-end.ensures.count in
    let past : length (zip coeffs lists) ≤ c.loop-k.k =
    rw (length-zip coeffs lists) (omega (arith, length-exponent_lists params.dims c.args.degree c.requires.in_range.dims (omega arith))) in
    let term = λ (p : ℤ × List ℕ). nat_abs p.0 * box_reach params c.args.object.now p.1 in
    c.loop-k.invariant ∙ ap (λ xs. min (sum_by term xs) (2 ^ 128 - 1)) (take_all c.loop-k.k (zip coeffs lists) past)
