use Rattle.row_machine.proofs.Staged.{stage_keeps}
use Rattle.row_machine.proofs.desk.Desk.stage.Goals as goal

pub invariant_of-self : goal.invariant_of-self
invariant_of-self g c = record { same = c.args.self.now.same; fitting = stage_keeps c.args.self.now.params _ _ _ c.args.row.now _ c.stage.ensures.ok c.stage.ensures.err c.requires.fits c.args.self.now.fitting }
