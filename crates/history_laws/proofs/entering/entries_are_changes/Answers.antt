use Rattle.history_laws.proofs.Counted.{are_changes}
use Rattle.history_laws.proofs.entering.entries_are_changes.Goals as goal

pub returns : goal.returns
returns c = are_changes c.lives_are_alone.ensures.count
