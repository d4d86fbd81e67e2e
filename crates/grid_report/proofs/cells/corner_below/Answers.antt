use Rattle.std.proofs.Common.{Err, ap, ◌∙◌}
use Rattle.grid_report.proofs.cells.corner_below.Goals as goal

pub returns-in-Err-Damaged-clause-sound : goal.returns-in-Err-Damaged-clause-sound
returns-in-Err-Damaged-clause-sound g c = λ whole h page held e. c.below.ensures.sound whole h c.in-Err-Damaged.page held (c.in-Err-Damaged.is ∙ ap Err c.in-Err-Damaged.field-0-is)
