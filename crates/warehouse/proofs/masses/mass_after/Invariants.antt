use Rattle.std.proofs.Common.{◌≡◌, ◌+◌, take}
use Rattle.bw_types.specs.History.{flat}
use Rattle.bw_types.specs.Refusals.{total_mass}
use Rattle.warehouse.proofs.masses.mass_after.Given as goal

abbrev pub invariant-loop-row : goal.invariant-loop-row
invariant-loop-row l = l.total ≡ l.mass + total_mass l.params (flat (take l.row-index l.rows))
