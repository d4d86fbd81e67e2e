use Rattle.std.proofs.Common.{refl, rules}
use Rattle.row_machine.specs.declared.ending.Ending.TheVariants.{NoMemory}
use Rattle.row_machine.proofs.Housing.{leaves_kept, step_goes_on}
use Rattle.row_machine.proofs.desk.Desk.take_line.Goals as goal

pub returns-in-Err-clause-does : goal.returns-in-Err-clause-does
returns-in-Err-clause-does g c = record {
  params = search rules;
  went = search rules;
  stops = search rules;
  reads = search rules;
  quiet = λ may. (refl, refl);
  leaves = λ h stands. leaves_kept g.H.House c.args.self.now.params h _ _ (record { ending = NoMemory; device = g.H.House.device c.args.self.now.house }) (step_goes_on c.args.self.now.params c.args.number (record { history = h; staged = c.args.self.now.sessions }) c.args.line.now) refl;
  charge = λ h stands other. refl;
  tells = search rules;
  faults = search rules;
  own = search rules;
  limit = search rules;
  disk = search rules;
}
