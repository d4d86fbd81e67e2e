use Rattle.std.proofs.Common.{refl}
use Rattle.std.specs.Fmt.{digits}
use Rattle.csv_rows.proofs.worked.signed_line_is_integrated.Goals as goal

pub returns : goal.returns
unfolding digits
returns c = refl
