use Rattle.std.proofs.Common.{rules, ◌≡◌, arith, refl, [], ℕ, ℤ, slice_index, slice_index_or, FitsSigned, ◌∙◌}
use Rattle.std.proofs.lemmas.Int.{to_z-of_z}
use Rattle.std.specs.Int.{w128, w64}
use Rattle.bw_types.specs.Integral.{exponent_lists, moment, common_low, common_high}
use Rattle.warehouse.proofs.Wrapped.{product_step}
use Rattle.warehouse.proofs.integral.common_moment.Goals as goal

moment_at : (r : ℤ) (e e' : ℕ) (a a' b b' : ℤ) → r ≡ moment e a b → e ≡ e' → a ≡ a' → b ≡ b' → r ≡ moment e' a' b'
moment_at r e e' a a' b b' is p q s = is ∙ (rw (p, q, s) refl)

digit_at : (n dims dims' degree degree' k i : ℕ) → n ≡ slice_index (slice_index_or (exponent_lists dims degree) k []) i → dims ≡ dims' → degree ≡ degree' → n ≡ slice_index (slice_index_or (exponent_lists dims' degree') k []) i
digit_at n dims dims' degree degree' k i is p q = is ∙ (rw (p, q) refl)

pub loop-i-preserved : goal.loop-i-preserved
loop-i-preserved c =
    let f : FitsSigned w128 c.moment-product.result = search rules in
    let low : FitsSigned w64 c.common_low-low.result = search rules in
    let high : FitsSigned w64 c.common_high-high.result = search rules in
    product_step (λ i. moment (slice_index (slice_index_or (exponent_lists c.args.params.now.dims c.args.degree) c.args.k []) i) (common_low c.args.params.now c.args.query.now c.args.object.now i) (common_high c.args.params.now c.args.query.now c.args.object.now i))
    c.loop-i.i c.loop-i.product-bits c.moment-product.result (omega arith) f c.loop-i.invariant
    (moment_at c.moment-product.result _ _ _ _ _ _ c.moment-product.ensures
    (digit_at c.exponent-e.result _ _ _ _ c.args.k c.loop-i.i c.exponent-e.ensures.digit c.from-dims.ensures c.from.ensures)
    (to_z-of_z w64 c.common_low-low.result low ∙ c.common_low-low.ensures.is)
    (to_z-of_z w64 c.common_high-high.result high ∙ c.common_high-high.ensures.is))
