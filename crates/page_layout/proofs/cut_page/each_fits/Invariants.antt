use Rattle.std.proofs.Common.{ℕ, ◌<◌, get_or, IsTrue}
use Rattle.page_layout.specs.CutPage.{node_fits}
use Rattle.page_layout.specs.declared.cut_page.CutNode.{CutNode}
use Rattle.page_layout.proofs.cut_page.each_fits.Given as goal

abbrev pub invariant-loop-node : goal.invariant-loop-node
invariant-loop-node l = (k : ℕ) (d : CutNode) → k < l.node-index → IsTrue (node_fits (get_or l.nodes k d))
