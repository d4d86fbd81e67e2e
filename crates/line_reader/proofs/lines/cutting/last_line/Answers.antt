use Rattle.std.proofs.Common.{◌<◌, length, arith}
use Rattle.std.proofs.lemmas.Grind.{common_steps}
use Rattle.line_reader.proofs.ReaderLemmas.{Cuts-last}
use Rattle.line_reader.proofs.lines.cutting.last_line.Goals as goal

pub returns-clause-line : goal.returns-clause-line
returns-clause-line c =
    λ none.
    let some : 0 < length c.args.held.now = grind (arith, common_steps) in
    Cuts-last _ _ c.args.held.now c.line_at.result.text_len c.line_at.result.stopped c.line_at.ensures.stopped none some c.line_at.ensures.is_line c.line_at.ensures.long c.line_at.ensures.text c.line_at.ensures.within
