use Rattle.std.proofs.Common.{sym, ap}
use Rattle.page_layout.specs.Respelled.{row_place}
use Rattle.page_layout.specs.SbNode.{sb_entry_at}
use Rattle.page_layout.specs.declared.sb_node.SbNode.{SbNode}
use Rattle.page_layout.proofs.sb_view.View+SbNode.entry.Goals as goal

pub returns : goal.returns
returns c = row_place sb_entry_at 28 _ _ _ (ap (λ (n : SbNode). n.entries.items) (sym c.self.view_is)) c.args.place c.requires _ c.entry_in.ensures
