use Rattle.std.proofs.Common.{refl}
use Rattle.std.specs.Fmt.{digits}
use Rattle.csv_rows.proofs.worked.quotes_are_read.Goals as goal

pub returns : goal.returns
unfolding digits
returns c = refl
