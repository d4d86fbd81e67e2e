use Rattle.std.proofs.Common.{◌≡◌, ◌≤◌, pos, ℕ, ◌+◌, ◌*◌, ◌%◌, ◌^◌, ◌<◌, length, get_or, List, [], ◌*ℤ◌, arith, sym, ap, ◌∙◌, lit<}
use Rattle.std.specs.List.{zip}
use Rattle.std.proofs.lemmas.List.{take_all}
use Rattle.std.proofs.lemmas.Slice.Zip.{get_or-zip, length-zip}
use Rattle.bw_types.specs.ResidueLaws.{residue_of_small}
use Rattle.bw_types.specs.Residues.{residue}
use Rattle.bw_types.specs.Tally.{int_sum_by}
use Rattle.corner_weights.specs.Planes.{monomial, plane_exponents}
use Rattle.corner_weights.proofs.Digits.{length-plane_exponents}
use Rattle.corner_weights.proofs.Steps.{sum_step, residue_of_times}
use Rattle.corner_weights.proofs.planes.eval.Goals as goal

pub loop-k-init : goal.loop-k-init
loop-k-init c = sym (residue_of_small 0 (lit< tt))

pub loop-k-preserved : goal.loop-k-preserved
loop-k-preserved c =
    let params = c.args.params.now in
    let planes = c.args.planes.now in
    let lists = plane_exponents params.dims c.in-Some.degree in
    let term = λ (p : ℕ × List ℕ). pos p.0 *ℤ monomial params c.args.at.now p.1 in
    let degree : c.in-Some.degree ≤ 2 = rw c.in-Some.is at c.requires.in_range.degree in
    let counted : length planes ≡ (c.in-Some.degree + 2) ^ params.dims = rw c.in-Some.is at c.requires.planes in
    let some : c.loop-k.k < length lists = omega (arith, length-plane_exponents params.dims c.in-Some.degree c.requires.in_range.dims degree) in
    let within : c.loop-k.k < length (zip planes lists) = rw (length-zip planes lists) (omega arith) in
    let at = get_or-zip planes lists c.loop-k.k (0, []) c.loop-k-test.true some in
    let plane = get_or planes c.loop-k.k 0 in
    let is : c.res_mul.result ≡ residue (pos plane *ℤ monomial params c.args.at.now (get_or lists c.loop-k.k [])) =
    c.res_mul.ensures ∙ ap (λ m. plane * m % 2 ^ 128) c.monomial.ensures ∙ sym (residue_of_times plane (monomial params c.args.at.now (get_or lists c.loop-k.k []))) in
    sum_step term (zip planes lists) c.loop-k.k (0, []) c.loop-k.total c.res_mul.result c.res_add-total.result within c.loop-k.invariant (is ∙ ap (λ p. residue (term p)) (sym at)) c.res_add-total.ensures

pub returns : goal.returns
returns c =
    let params = c.args.params.now in
    let planes = c.args.planes.now in
    let lists = plane_exponents params.dims c.in-Some.degree in
    let term = λ (p : ℕ × List ℕ). pos p.0 *ℤ monomial params c.args.at.now p.1 in
    let past : length (zip planes lists) ≤ c.loop-k.k = rw (length-zip planes lists) (omega arith) in
    let whole = c.loop-k.invariant ∙ ap (λ xs. residue (int_sum_by term xs)) (take_all c.loop-k.k (zip planes lists) past) in
    rw c.in-Some.is whole
