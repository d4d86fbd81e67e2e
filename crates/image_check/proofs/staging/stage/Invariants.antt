use Rattle.std.proofs.Common.{◌≡◌, ◌++◌, length, map}
use Rattle.bw_types.specs.Lawful.{staged_rows}
use Rattle.page_warehouse.specs.Events.{change_in}
use Rattle.image_check.proofs.staging.stage.Given as goal

abbrev pub invariant-loop-later : goal.invariant-loop-later
invariant-loop-later l = l.rows.items ++ staged_rows (map change_in l.later) ≡ staged_rows (map change_in l.fn.events)

abbrev pub decreases-loop-later : goal.decreases-loop-later
decreases-loop-later l = length l.later
