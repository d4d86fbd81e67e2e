use Rattle.history_laws.proofs.ToldAgain.{named_changes}
use Rattle.history_laws.proofs.telling.lives_name_changes.Goals as goal

pub returns : goal.returns
returns c = record { named = named_changes c.lives_are_alone.ensures.count c.staging_changes_no_refusal.ensures }
