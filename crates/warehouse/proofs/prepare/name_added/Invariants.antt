use Rattle.std.proofs.Common.{◌≡◌, ℕ, ◌<◌, Some}
use Rattle.std.specs.List.{slice_get}
use Rattle.bw_types.specs.declared.row.Row.{Row}
use Rattle.warehouse.specs.Kept.{state_in, Knows}
use Rattle.warehouse.proofs.prepare.name_added.Given as goal

abbrev pub invariant-loop-row : goal.invariant-loop-row
invariant-loop-row l = record {
  states : (q : ℕ) → state_in l.states q ≡ state_in l.fn.states q;
  known : (k : ℕ) (r : Row) → k < l.row-index → slice_get l.rows k ≡ Some r → Knows l.states r;
}
