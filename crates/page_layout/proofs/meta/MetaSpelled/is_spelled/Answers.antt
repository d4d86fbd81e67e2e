use Rattle.page_layout.specs.MetaExact.{meta_in-typed}
use Rattle.page_layout.proofs.meta.MetaSpelled.is_spelled.Goals as goal

pub returns-then-keeps_rules_at-clause-typed : goal.returns-then-keeps_rules_at-clause-typed
returns-then-keeps_rules_at-clause-typed c = meta_in-typed c.args.page.now c.bytes_of-bytes.ensures.bytes

pub returns-else-keeps_rules_at-clause-typed : goal.returns-else-keeps_rules_at-clause-typed
returns-else-keeps_rules_at-clause-typed c = meta_in-typed c.args.page.now c.bytes_of-bytes.ensures.bytes
