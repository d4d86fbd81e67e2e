use Rattle.std.specs.Int.Signed.{nat_abs-le}
use Rattle.image_check.proofs.judging.is_small.Goals as goal

pub returns : goal.returns
returns c = nat_abs-le c.args.weight c.ranges.weight.sfits
