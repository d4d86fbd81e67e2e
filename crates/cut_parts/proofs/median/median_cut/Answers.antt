use Rattle.std.proofs.Common.{◌/◌, length}
use Rattle.cut_parts.proofs.Apart.{differ_in_each}
use Rattle.cut_parts.proofs.Halving.{high_half}
use Rattle.cut_parts.proofs.median.median_cut.Goals as goal

pub middle_key-key-requires-clause-keys : goal.middle_key-key-requires-clause-keys
middle_key-key-requires-clause-keys c =
    differ_in_each c.args.dims c.args.points.now c.requires.points.apart c.widest-dimension.result c.widest-dimension.ensures.dimension

pub returns-clause-high : goal.returns-clause-high
returns-clause-high c =
    high_half c.widest-dimension.result (length c.middle_key-key.new.points / 2) c.middle_key-key.result c.middle_key-key.new.points c.middle_key-key.ensures.median
