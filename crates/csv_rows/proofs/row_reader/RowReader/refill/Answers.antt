use Rattle.std.proofs.Common.{◌∷◌, ◌++◌}
use Rattle.csv_rows.proofs.CsvReads.{no-mark}
use Rattle.csv_rows.proofs.row_reader.RowReader.refill.Goals as goal

pub over-requires-clause-no_mark : goal.over-requires-clause-no_mark
over-requires-clause-no_mark c =
    let (rest, is) = c.in_ok-text.ensures in
    rw is (no-mark (c.args.line.now ++ 10 ∷ rest))
