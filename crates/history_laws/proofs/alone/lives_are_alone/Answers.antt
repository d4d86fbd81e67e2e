use Rattle.history_laws.proofs.AloneLaws.{count_changes, one_open}
use Rattle.history_laws.proofs.alone.lives_are_alone.Goals as goal

pub returns-clause-one : goal.returns-clause-one
returns-clause-one c = one_open

pub returns-clause-count : goal.returns-clause-count
returns-clause-count c = count_changes
