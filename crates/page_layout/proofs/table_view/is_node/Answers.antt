use Rattle.page_layout.specs.Respelling.{by_id-respells}
use Rattle.page_layout.specs.TableView.{table_entry-respells}
use Rattle.page_layout.proofs.table_view.is_node.Goals as goal

pub spells_row-requires-clause-respells : goal.spells_row-requires-clause-respells
spells_row-requires-clause-respells c = by_id-respells

pub spells_row-requires-2-clause-respells : goal.spells_row-requires-2-clause-respells
spells_row-requires-2-clause-respells c = table_entry-respells
