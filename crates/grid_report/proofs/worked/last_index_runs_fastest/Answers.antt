use Rattle.std.proofs.Common.{refl}
use Rattle.std.specs.Fmt.{digits}
use Rattle.grid_report.proofs.worked.last_index_runs_fastest.Goals as goal

pub returns : goal.returns
unfolding digits
returns c = refl
