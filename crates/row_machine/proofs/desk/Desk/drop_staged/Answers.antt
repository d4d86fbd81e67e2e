use Rattle.row_machine.proofs.Staged.{clear_keeps}
use Rattle.row_machine.proofs.desk.Desk.drop_staged.Goals as goal

pub invariant_of-self : goal.invariant_of-self
invariant_of-self g c = record { same = c.args.self.now.same; fitting = clear_keeps c.args.self.now.params _ _ _ c.clear.ensures c.args.self.now.fitting }
