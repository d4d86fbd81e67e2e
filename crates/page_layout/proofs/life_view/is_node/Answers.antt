use Rattle.page_layout.specs.Respelling.{by_life-respells}
use Rattle.page_layout.specs.LifeView.{life_entry-respells}
use Rattle.page_layout.proofs.life_view.is_node.Goals as goal

pub spells_row-requires-clause-respells : goal.spells_row-requires-clause-respells
spells_row-requires-clause-respells c = by_life-respells

pub spells_row-requires-2-clause-respells : goal.spells_row-requires-2-clause-respells
spells_row-requires-2-clause-respells c = life_entry-respells
