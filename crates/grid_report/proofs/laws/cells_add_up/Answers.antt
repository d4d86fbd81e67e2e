use Rattle.grid_report.proofs.WholeGrid.{cells-add_up}
use Rattle.grid_report.proofs.laws.cells_add_up.Goals as goal

pub returns : goal.returns
returns c = cells-add_up
