use Rattle.page_layout.specs.SbView.{sb-respells}
use Rattle.page_layout.proofs.sb_view.is_node.Goals as goal

pub spells_row-requires-clause-respells : goal.spells_row-requires-clause-respells
spells_row-requires-clause-respells c = sb-respells
