use Rattle.row_machine.proofs.Acknowledging.{acknowledged}
use Rattle.row_machine.proofs.Endings.{in_part, fine_serves, input_serves, fine_settles, within_all}
use Rattle.row_machine.proofs.laws.ends_laws.Goals as goal

pub returns-clause-part : goal.returns-clause-part
returns-clause-part g c = in_part g.H.House

pub returns-clause-fine : goal.returns-clause-fine
returns-clause-fine g c = fine_serves g.H.House

pub returns-clause-input : goal.returns-clause-input
returns-clause-input g c = input_serves g.H.House

pub returns-clause-settles : goal.returns-clause-settles
returns-clause-settles g c = fine_settles g.H.House

pub returns-clause-within : goal.returns-clause-within
returns-clause-within g c = within_all g.H.House

pub returns-clause-acknowledged : goal.returns-clause-acknowledged
returns-clause-acknowledged g c = acknowledged g.H.House
