use Rattle.cut_parts.proofs.Values.{values_are_sums}
use Rattle.cut_parts.proofs.laws.values_are_sums.Goals as goal

pub returns : goal.returns
returns c = values_are_sums
