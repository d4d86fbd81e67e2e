use Rattle.std.proofs.Common.{◌≡◌, length, take}
use Rattle.bw_types.specs.History.{flat}
use Rattle.warehouse.proofs.prepare.change_count.Given as goal

abbrev pub invariant-loop-row : goal.invariant-loop-row
invariant-loop-row l = l.count ≡ length (flat (take l.row-index l.rows))
