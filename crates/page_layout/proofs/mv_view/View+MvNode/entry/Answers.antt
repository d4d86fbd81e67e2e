use Rattle.std.proofs.Common.{sym, ap}
use Rattle.page_layout.specs.Respelled.{row_place}
use Rattle.page_layout.specs.MvNode.{mv_entry_at}
use Rattle.page_layout.specs.declared.mv_node.MvNode.{MvNode}
use Rattle.page_layout.proofs.mv_view.View+MvNode.entry.Goals as goal

pub returns : goal.returns
returns c = row_place mv_entry_at 40 _ _ _ (ap (λ (n : MvNode). n.entries.items) (sym c.self.view_is)) c.args.place c.requires _ c.entry_in.ensures
