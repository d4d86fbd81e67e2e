use Rattle.line_reader.proofs.LinesLemmas as law
use Rattle.line_reader.proofs.line_laws.whole_part_of_passed.Goals as goal

pub returns : goal.returns
returns c = law.whole_part_of_passed
