use Rattle.std.proofs.Common.{◌≡◌, ◌+◌, take}
use Rattle.std.specs.List.{All}
use Rattle.bw_types.specs.History.{flat}
use Rattle.bw_types.specs.Refusals.{total_mass}
use Rattle.history_laws.specs.Bounds.{HasSmallWeight}
use Rattle.page_warehouse.proofs.masses.mass_with.Given as goal

abbrev pub invariant-loop-row : goal.invariant-loop-row
invariant-loop-row l = record {
  total : l.total ≡ l.before + total_mass l.params (flat (take l.row-index l.rows));
  weights : All HasSmallWeight (flat (take l.row-index l.rows));
}
