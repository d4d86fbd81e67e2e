use Rattle.page_layout.specs.Respelling.{number-respells}
use Rattle.page_layout.specs.HeadView.{head_in-typed}
use Rattle.page_layout.proofs.journal_head.JournalHeadSpelled.is_spelled.Goals as goal

pub spells_row-requires-clause-respells : goal.spells_row-requires-clause-respells
spells_row-requires-clause-respells c = number-respells 8

pub returns-clause-typed : goal.returns-clause-typed
returns-clause-typed c = head_in-typed c.args.page.now c.bytes_of-bytes.ensures.bytes
