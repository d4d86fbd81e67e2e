use Rattle.line_reader.proofs.LinesLemmas as law
use Rattle.line_reader.proofs.line_laws.lines_join.Goals as goal

pub returns : goal.returns
returns c = law.lines_join
