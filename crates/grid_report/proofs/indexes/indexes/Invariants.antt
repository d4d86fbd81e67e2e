use Rattle.std.proofs.Common.{slice_index}
use Rattle.grid_report.proofs.IndexSteps.{HoldsIndexes}
use Rattle.grid_report.proofs.indexes.indexes.Given as goal

abbrev pub invariant-loop-i : goal.invariant-loop-i
invariant-loop-i l = HoldsIndexes l.dims (λ i. slice_index l.sizes i) l.number l.i l.rest l.at
