use Rattle.std.specs.Int.Signed.{nat_abs-le}
use Rattle.page_warehouse.proofs.masses.is_small.Goals as goal

pub returns : goal.returns
returns c = nat_abs-le c.args.weight c.ranges.weight.sfits
