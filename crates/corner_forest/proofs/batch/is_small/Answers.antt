use Rattle.std.specs.Int.Signed.{nat_abs-le}
use Rattle.corner_forest.proofs.batch.is_small.Goals as goal

pub returns : goal.returns
returns c = nat_abs-le c.args.weight c.ranges.weight.sfits
