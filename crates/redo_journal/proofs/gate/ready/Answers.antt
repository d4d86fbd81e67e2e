use Rattle.redo_journal.proofs.Common.{◌∙◌}
use Rattle.redo_journal.proofs.RestLemmas.{settled_by}
use Rattle.redo_journal.proofs.gate.ready.Goals as goal

pub returns-clause-settled : goal.returns-clause-settled
returns-clause-settled g c = settled_by _ (c.looked.ensures.reads.moments ∙ c.in_ok-sync.ensures.ok) (c.looked.ensures.reads.image ∙ c.sync.ensures.image)
