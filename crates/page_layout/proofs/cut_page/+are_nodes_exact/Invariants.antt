use Rattle.page_layout.proofs.cut_page.+are_nodes_exact.Given as goal

abbrev pub decreases-are_nodes_exact : goal.decreases-are_nodes_exact
decreases-are_nodes_exact l = l.count
