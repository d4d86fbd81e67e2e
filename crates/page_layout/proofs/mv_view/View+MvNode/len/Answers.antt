use Rattle.std.proofs.Common.{length, ap, arith}
use Rattle.page_layout.specs.MvView.{length-mv_entries}
use Rattle.page_layout.specs.declared.mv_node.MvNode.{MvNode}
use Rattle.page_layout.proofs.mv_view.View+MvNode.len.Goals as goal

pub returns : goal.returns
returns c = omega (arith, c.min.ensures, c.from.ensures, c.read_count.ensures, length-mv_entries, ap (λ (n : MvNode). length n.entries.items) c.self.view_is)
