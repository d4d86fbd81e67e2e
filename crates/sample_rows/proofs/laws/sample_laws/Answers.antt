use Rattle.sample_rows.proofs.SmallTotals.{totals_are_small}
use Rattle.sample_rows.proofs.laws.sample_laws.Goals as goal

pub returns : goal.returns
returns c = totals_are_small
