use Rattle.std.proofs.Common.{refl}
use Rattle.std.specs.Fmt.{digits}
use Rattle.csv_rows.proofs.worked.past_versions_stay.Goals as goal

pub returns : goal.returns
unfolding digits
returns c = refl
