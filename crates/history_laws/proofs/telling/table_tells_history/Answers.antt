use Rattle.history_laws.proofs.ToldAgain.{one_told, told_again}
use Rattle.history_laws.proofs.telling.table_tells_history.Goals as goal

pub returns-clause-told : goal.returns-clause-told
returns-clause-told c = told_again c.lives_are_alone.ensures.count c.staging_changes_no_refusal.ensures

pub returns-clause-one : goal.returns-clause-one
returns-clause-one c = one_told c.lives_are_alone.ensures.count c.staging_changes_no_refusal.ensures
