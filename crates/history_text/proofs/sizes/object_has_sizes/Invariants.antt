use Rattle.std.proofs.Common.{take, w64, FitsSigned}
use Rattle.std.specs.List.{All}
use Rattle.history_text.proofs.sizes.object_has_sizes.Given as goal

abbrev pub invariant-loop-coefficient : goal.invariant-loop-coefficient
invariant-loop-coefficient l = All (FitsSigned w64) (take l.coefficient-index l.object.coeffs)
