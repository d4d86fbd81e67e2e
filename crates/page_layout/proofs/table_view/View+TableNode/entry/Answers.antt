use Rattle.page_layout.specs.TableView.{entry_on}
use Rattle.page_layout.proofs.table_view.View+TableNode.entry.Goals as goal

pub returns : goal.returns
returns c = entry_on c.self.inside.page.now _ c.self.view_is c.args.place c.requires _ c.entry_in.ensures
