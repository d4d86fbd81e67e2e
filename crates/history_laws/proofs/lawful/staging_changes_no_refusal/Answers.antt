use Rattle.history_laws.proofs.Staging.{staging}
use Rattle.history_laws.proofs.lawful.staging_changes_no_refusal.Goals as goal

pub returns : goal.returns
returns c = staging
