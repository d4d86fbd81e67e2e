use Rattle.std.proofs.Common.{◌+◌, pos}
use Rattle.csv_rows.specs.Fields.{field_at}
use Rattle.csv_rows.specs.Input.{weight_of}
use Rattle.csv_rows.proofs.GivenValues.{HoldsGiven}
use Rattle.csv_rows.proofs.parts.coefficients_at.Given as goal

abbrev pub invariant-loop-k : goal.invariant-loop-k
invariant-loop-k l = HoldsGiven l.k (λ k. weight_of (field_at l.fields (l.place + k))) 27 (pos 0) l.coefficients
