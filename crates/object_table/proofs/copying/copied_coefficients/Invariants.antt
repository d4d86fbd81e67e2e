use Rattle.std.proofs.Common.{◌≡◌, take}
use Rattle.std.specs.List.{All}
use Rattle.std.specs.Int.{w64}
use Rattle.std.specs.Int.RustNames.{FitsSigned}
use Rattle.arrayvec.specs.ArrayVec.{array_vec_len}
use Rattle.object_table.proofs.copying.copied_coefficients.Given as goal

abbrev pub invariant-loop-coefficient : goal.invariant-loop-coefficient
invariant-loop-coefficient l = record {
  items : l.row.items ≡ take l.coefficient-index l.coefficients;
  count : array_vec_len l.row ≡ l.coefficient-index;
  typed : All (FitsSigned w64) l.row.items;
}
