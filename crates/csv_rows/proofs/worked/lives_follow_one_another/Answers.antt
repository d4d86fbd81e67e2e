use Rattle.std.proofs.Common.{refl}
use Rattle.std.specs.Fmt.{digits}
use Rattle.csv_rows.proofs.worked.lives_follow_one_another.Goals as goal

pub returns : goal.returns
unfolding digits
returns c = refl
