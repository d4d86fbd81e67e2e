use Rattle.std.proofs.Common.{length, ap, arith}
use Rattle.page_layout.specs.CutView.{length-its_nodes}
use Rattle.page_layout.specs.declared.cut_page.CutPage.{CutPage}
use Rattle.page_layout.proofs.cut_view.View+CutPage.node_count.Goals as goal

pub returns : goal.returns
returns c = omega (arith, c.saturating_sub.ensures, c.count_in.ensures.value, length-its_nodes, ap (λ (p : CutPage). length p.nodes.items) c.self.view_is)
