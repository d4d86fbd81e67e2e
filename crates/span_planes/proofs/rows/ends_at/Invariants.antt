use Rattle.std.proofs.Common.{◌+◌, ◌*◌}
use Rattle.csv_rows.specs.Fields.{field_at}
use Rattle.csv_rows.specs.Input.{stored_of}
use Rattle.csv_rows.proofs.GivenValues.{HoldsGiven}
use Rattle.span_planes.proofs.rows.ends_at.Given as goal

abbrev pub invariant-loop-i : goal.invariant-loop-i
invariant-loop-i l = HoldsGiven l.i (λ i. stored_of l.params (field_at l.fields (l.place + 2 * i))) 3 0 l.ends
