use Rattle.std.proofs.Common.{rules, pos, ◌-ℤ◌, arith}
use Rattle.corner_weights.proofs.Bounds.{power_of_result_fits, difference_small}
use Rattle.corner_weights.proofs.powers.power.Goals as goal

pub pow-requires : goal.pow-requires
pow-requires c =
    let small = difference_small c.args.number c.args.origin (omega arith) (omega arith) in
    power_of_result_fits c.coordinate.result (pos c.args.number -ℤ pos c.args.origin) c.args.e c.coordinate.ensures small c.requires (search rules)
