use Rattle.std.proofs.Common.{length, ap, arith}
use Rattle.page_layout.specs.SbView.{length-sb_entries}
use Rattle.page_layout.specs.declared.sb_node.SbNode.{SbNode}
use Rattle.page_layout.proofs.sb_view.View+SbNode.len.Goals as goal

pub returns : goal.returns
returns c = omega (arith, c.min.ensures, c.from.ensures, c.read_count.ensures, length-sb_entries, ap (λ (n : SbNode). length n.entries.items) c.self.view_is)
