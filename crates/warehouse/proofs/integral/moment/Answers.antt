use Rattle.std.proofs.Common.{rules, ℕ, ◌≡◌, ◌+◌, ◌/◌, ◌≤◌, true, arith, refl, ◌∙◌, ap, nat_abs, ℤ, pos, ◌-ℤ◌, ◌*ℤ◌, FitsSigned, int_lt}
use Rattle.std.proofs.Math.Nat.{div-le_self}
use Rattle.std.proofs.lemmas.Int.{to_z-of_z, ints}
use Rattle.std.specs.Int.{int_pow, w64, w128}
use Rattle.warehouse.proofs.Sizes.{moment_fits, difference_fits}
use Rattle.bw_types.specs.Integral.{moment}
use Rattle.warehouse.proofs.integral.moment.Goals as goal

factor_small : (e : ℕ) (f : ℤ) → f ≡ pos (6 / (e + 1)) → nat_abs f ≤ 6
factor_small e f is = let at = ap nat_abs is in let q = div-le_self 6 (e + 1) in omega arith

moment_is : (e : ℕ) (a b f h l : ℤ) → int_lt a b ≡ true → f ≡ pos (6 / (e + 1)) → h ≡ int_pow b (e + 1) → l ≡ int_pow a (e + 1) → f *ℤ (h -ℤ l) ≡ moment e a b
moment_is e a b f h l below is high low = rw (below, is, high, low) refl

pub overflow_mul-result : goal.overflow_mul-result
overflow_mul-result c =
    let is : c.from.result ≡ pos (6 / (c.args.e + 1)) = search rules in
    let f : FitsSigned w128 c.from.result = search rules in
    let h : FitsSigned w128 c.power.result = search rules in
    let l : FitsSigned w128 c.power-2.result = search rules in
    let d = difference_fits c.power.result c.power-2.result c.power.ensures.small c.power-2.ensures.small in
    simp to_z-of_z (moment_fits c.from.result c.power.result c.power-2.result (factor_small c.args.e c.from.result is) c.power.ensures.small c.power-2.ensures.small)

pub returns : goal.returns
returns c =
    let is : c.from.result ≡ pos (6 / (c.args.e + 1)) = search rules in
    let below : int_lt c.args.a c.args.b ≡ true = grind (arith, ints) in
    let f : FitsSigned w128 c.from.result = search rules in
    let h : FitsSigned w128 c.power.result = search rules in
    let l : FitsSigned w128 c.power-2.result = search rules in
    let d = difference_fits c.power.result c.power-2.result c.power.ensures.small c.power-2.ensures.small in
    let m = moment_fits c.from.result c.power.result c.power-2.result (factor_small c.args.e c.from.result is) c.power.ensures.small c.power-2.ensures.small in
    simp to_z-of_z (moment_is c.args.e c.args.a c.args.b _ _ _ below is (c.power.ensures.is ∙ ap (λ z. int_pow z (c.args.e + 1)) (to_z-of_z w64 c.args.b c.ranges.b)) (c.power-2.ensures.is ∙ ap (λ z. int_pow z (c.args.e + 1)) (to_z-of_z w64 c.args.a c.ranges.a)))
