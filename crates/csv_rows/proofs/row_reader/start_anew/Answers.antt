use Rattle.std.proofs.Common.{refl}
use Rattle.csv.specs.Reading.{strip_bom}
use Rattle.csv_rows.proofs.row_reader.start_anew.Goals as goal

pub reader_of-requires : goal.reader_of-requires
unfolding strip_bom
reader_of-requires c = rw c.new.ensures.items refl
