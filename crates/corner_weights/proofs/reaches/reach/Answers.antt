-- Each power is at most 2^96, and at most 6 times two of them fit.
use Rattle.std.proofs.Common.{arith}
use Rattle.corner_weights.proofs.Bounds.{power_fits, reach_fits, quotient_small}
use Rattle.corner_weights.proofs.reaches.reach.Goals as goal

pub pow-requires : goal.pow-requires
pow-requires c = omega (arith, power_fits c.from-above.result c.args.e (omega arith) (omega arith))

pub pow-requires-2 : goal.pow-requires-2
pow-requires-2 c = omega (arith, power_fits c.from-below.result c.args.e (omega arith) (omega arith))

pub overflow_add-result : goal.overflow_add-result
overflow_add-result c =
    let above = power_fits c.from-above.result c.args.e (omega arith) (omega arith) in
    let below = power_fits c.from-below.result c.args.e (omega arith) (omega arith) in
    omega arith

pub overflow_mul-result : goal.overflow_mul-result
overflow_mul-result c =
    let above = power_fits c.from-above.result c.args.e (omega arith) (omega arith) in
    let below = power_fits c.from-below.result c.args.e (omega arith) (omega arith) in
    omega (arith, reach_fits c.from.result c.pow.result c.pow-2.result (omega (arith, quotient_small c.args.e)) (omega arith) (omega arith))
