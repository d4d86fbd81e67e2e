use Rattle.history_laws.proofs.Staging.{accepted}
use Rattle.history_laws.proofs.lawful.accepted_batches_are_lawful.Goals as goal

pub returns : goal.returns
returns c = accepted
