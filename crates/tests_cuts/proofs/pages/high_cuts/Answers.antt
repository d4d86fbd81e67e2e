use Rattle.std.proofs.Common.{rules, ◌≡◌, List, [], ◌∷◌, refl, sym, ap, subst, arith}
use Rattle.bw_types.specs.Empty.{empty_tree}
use Rattle.page_layout.specs.CutPage.{entry_count}
use Rattle.page_layout.specs.declared.cut_page.CutNode.{CutNode}
use Rattle.page_layout.specs.declared.cut_page.CutNode.TheVariants.{Entry, Cut}
use Rattle.cut_parts.specs.Nodes.{AreNodes}
use Rattle.tests_cuts.proofs.ByHand.{cut_keeps, entry_keeps, nodes_by_hand}
use Rattle.tests_cuts.proofs.pages.high_cuts.Goals as goal

nodes : List CutNode
nodes = Cut 1 40 1 empty_tree ∷ Entry 3 ∷ Cut 0 100 1 empty_tree ∷ Entry 4 ∷ Cut 1 70 1 empty_tree ∷ Entry 5 ∷ Entry 6 ∷ []

pub returns-clause-nodes : goal.returns-clause-nodes
unfolding nodes
returns-clause-nodes c =
    let is : c.page_of.result.nodes.items ≡ nodes = search rules in
    subst AreNodes (sym is) (nodes_by_hand nodes refl
    (cut_keeps 1 40 (omega arith) (omega arith), (entry_keeps 3 (omega arith) (omega arith), (cut_keeps 0 100 (omega arith) (omega arith), (entry_keeps 4 (omega arith) (omega arith), (cut_keeps 1 70 (omega arith) (omega arith), (entry_keeps 5 (omega arith) (omega arith), (entry_keeps 6 (omega arith) (omega arith), tt))))))))

pub returns-clause-entries : goal.returns-clause-entries
unfolding nodes
returns-clause-entries c =
    let is : c.page_of.result.nodes.items ≡ nodes = search rules in
    ap (λ (ns : List CutNode). entry_count ns) is
