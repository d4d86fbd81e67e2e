use Rattle.bw_types.specs.declared.params.Params.{Params}
use Rattle.std.proofs.Common.{Some, rules, ◌≡◌, ◌≤◌, ◌+◌, ◌^◌, ◌∙◌, ap, arith, refl, sym, [], length, pos, ◌*ℤ◌, ℕ, ℤ, slice_index_or, FitsSigned, add-one}
use Rattle.std.proofs.lemmas.Int.{ints}
use Rattle.std.specs.Int.{int_wrap, w128}
use Rattle.bw_types.specs.Fits.{coefficient_count}
use Rattle.bw_types.specs.Integral.{exponent_lists, common_moment}
use Rattle.warehouse.proofs.Digits.{length-exponent_lists}
use Rattle.warehouse.proofs.Wrapped.{sum_step, int_sum_below, int_sum_by-zip}
use Rattle.warehouse.proofs.integral.integral_of_degree.Goals as goal

pub loop-k-preserved : goal.loop-k-preserved
loop-k-preserved c =
    let f : FitsSigned w128 c.term-total.result = search rules in
    let g : ℕ → ℤ = λ k. slice_index_or c.args.object.now.coeffs k (pos 0) *ℤ common_moment c.args.params.now c.args.query.now c.args.object.now (slice_index_or (exponent_lists c.args.params.now.dims c.args.degree) k []) in
    sum_step (int_sum_below c.loop-k.k g) (g c.loop-k.k) (int_sum_below (c.loop-k.k + 1) g) c.loop-k.total-bits c.term-total.result (omega arith) f c.loop-k.invariant c.term-total.ensures (rw (add-one c.loop-k.k) refl)

count_at : (params : Params) (g : ℕ) → params.degree ≡ Some g → coefficient_count params ≡ (g + 1) ^ params.dims
count_at params g e = rw e refl

zero_times : (z : ℤ) → pos 0 *ℤ z ≡ pos 0
zero_times z = omega (arith, ints)

pub returns : goal.returns
returns c =
    let degree : c.args.degree ≤ 2 = rw c.requires.degree at c.requires.in_range.degree in
    let count = count_at c.args.params.now c.args.degree c.requires.degree in
    let lists = length-exponent_lists c.args.params.now.dims c.args.degree c.requires.in_range.dims degree in
    let n : length (exponent_lists c.args.params.now.dims c.args.degree) ≡ c.loop-k.k = omega arith in
    c.loop-k.invariant
    ∙ ap (int_wrap w128) (sym (int_sum_by-zip (λ (x, es). x *ℤ common_moment c.args.params.now c.args.query.now c.args.object.now es) c.args.object.now.coeffs (exponent_lists c.args.params.now.dims c.args.degree) (pos 0) [] c.loop-k.k n (λ es. zero_times (common_moment c.args.params.now c.args.query.now c.args.object.now es))))
