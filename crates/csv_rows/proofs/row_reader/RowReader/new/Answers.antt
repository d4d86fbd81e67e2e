use Rattle.std.proofs.Common.{refl}
use Rattle.csv.specs.Reading.{strip_bom}
use Rattle.csv_rows.proofs.row_reader.RowReader.new.Goals as goal

pub over-requires-clause-no_mark : goal.over-requires-clause-no_mark
unfolding strip_bom
over-requires-clause-no_mark c = rw c.new.ensures.items refl
