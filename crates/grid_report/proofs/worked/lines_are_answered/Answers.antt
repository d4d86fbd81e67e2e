use Rattle.std.proofs.Common.{refl}
use Rattle.std.specs.Fmt.{digits}
use Rattle.grid_report.proofs.worked.lines_are_answered.Goals as goal

pub returns : goal.returns
unfolding digits
returns c = (refl, refl, refl)
