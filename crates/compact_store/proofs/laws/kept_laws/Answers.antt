use Rattle.compact_store.proofs.KeptLaws.{kept_alike, kept_lawful, kept_no_more}
use Rattle.compact_store.proofs.laws.kept_laws.Goals as goal

pub returns-clause-lawful : goal.returns-clause-lawful
returns-clause-lawful c = kept_lawful

pub returns-clause-alike : goal.returns-clause-alike
returns-clause-alike c = kept_alike

pub returns-clause-no_more : goal.returns-clause-no_more
returns-clause-no_more c = kept_no_more
