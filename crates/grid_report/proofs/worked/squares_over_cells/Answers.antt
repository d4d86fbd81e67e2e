use Rattle.std.proofs.Common.{refl}
use Rattle.std.specs.Fmt.{digits}
use Rattle.grid_report.proofs.worked.squares_over_cells.Goals as goal

pub returns : goal.returns
unfolding digits
returns c = (refl, refl)
