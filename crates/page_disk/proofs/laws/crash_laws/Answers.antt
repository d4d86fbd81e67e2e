use Rattle.page_disk.specs.SinceLaws.{left_settled, settled_leaves, since_now}
use Rattle.page_disk.proofs.laws.crash_laws.Goals as goal

pub returns-clause-sync : goal.returns-clause-sync
returns-clause-sync c = left_settled

pub returns-clause-now : goal.returns-clause-now
returns-clause-now c = since_now

pub returns-clause-settled : goal.returns-clause-settled
returns-clause-settled c = settled_leaves
