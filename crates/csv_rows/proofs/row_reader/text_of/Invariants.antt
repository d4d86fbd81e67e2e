use Rattle.csv_rows.specs.Feed.{BeginsWithLine}
use Rattle.csv_rows.proofs.row_reader.text_of.Given as goal

abbrev pub invariant-loop-next : goal.invariant-loop-next
invariant-loop-next l = BeginsWithLine l.text.items l.fn.line
