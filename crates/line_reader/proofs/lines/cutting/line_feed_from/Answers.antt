use Rattle.std.proofs.lemmas.List.{take_rest}
use Rattle.line_reader.proofs.SearchLemmas.{none_found, line_end_found}
use Rattle.line_reader.proofs.lines.cutting.line_feed_from.Goals as goal

pub returns-in_err-offset : goal.returns-in_err-offset
returns-in_err-offset c =
    rw c.from_residual.ensures
    (none_found c.args.held.now _ c.args.scanned (take_rest c.args.held.now c.args.scanned) c.requires.in_line c.in_err-offset.ensures)

pub returns : goal.returns
returns c =
    line_end_found c.args.held.now _ c.args.scanned c.in_ok-offset.offset (take_rest c.args.held.now c.args.scanned) c.requires.in_line
    c.in_ok-offset.ensures.0 c.in_ok-offset.ensures.1
