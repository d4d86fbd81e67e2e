use Rattle.std.proofs.Common.{◌<◌, length, get_or, arith, sym, ap, ◌∙◌}
use Rattle.std.proofs.lemmas.List.{length-map}
use Rattle.page_layout.specs.TableNode.{index_entries}
use Rattle.page_layout.specs.declared.table_node.TableEntry.{TableEntry}
use Rattle.object_table.specs.Nodes.{life_entry, entries_in}
use Rattle.object_table.proofs.Nodes.{life_entry-at}
use Rattle.object_table.proofs.Views.{ids_entries, shown_ids}
use Rattle.object_table.proofs.view.NodeView.entry.Goals as goal

pub returns-in-Ids : goal.returns-in-Ids
returns-in-Ids c = λ e.
    let d0 : TableEntry = c.entry-in-Ids.result in
    let whole = ids_entries c.in-Ids.node ∙ ap entries_in (shown_ids c.self.inside.shown c.in-Ids.node c.args.self.now c.in-Ids.is c.self.view_is) in
    let lt : c.args.place < length (index_entries c.in-Ids.node) = omega (arith, c.requires, ap length whole, length-map (index_entries c.in-Ids.node) life_entry) in
    c.as_life_entry.ensures ∙ ap life_entry (c.entry-in-Ids.ensures d0) ∙ sym (life_entry-at (index_entries c.in-Ids.node) c.args.place e d0 lt) ∙ ap (λ es. get_or es c.args.place e) whole
