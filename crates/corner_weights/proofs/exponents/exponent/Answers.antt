-- The digits were computed for each number of dimensions and each degree.
use Rattle.std.proofs.Common.{◌+◌, ◌-◌, arith}
use Rattle.std.proofs.Math.Nat.{one-le-pow}
use Rattle.corner_weights.proofs.Digits.{digit_is}
use Rattle.corner_weights.proofs.Bounds.{small_power}
use Rattle.corner_weights.proofs.exponents.exponent.Goals as goal

pub pow-requires : goal.pow-requires
pow-requires c = omega (arith, small_power (c.args.degree + 1) (c.args.dims - 1 - c.args.i) (omega arith) (omega arith))

pub nonzero_div-result : goal.nonzero_div-result
nonzero_div-result c = omega (arith, one-le-pow (c.args.dims - 1 - c.args.i) (c.args.degree + 1) (omega arith))

pub returns-clause-digit : goal.returns-clause-digit
returns-clause-digit c = rw c.pow.ensures (digit_is c.args.dims c.args.degree c.args.k c.args.i c.requires.dims c.requires.degree c.requires.coefficient c.requires.dimension)
