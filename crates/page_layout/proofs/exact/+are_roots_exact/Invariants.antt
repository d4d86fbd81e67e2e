use Rattle.page_layout.proofs.exact.+are_roots_exact.Given as goal

abbrev pub decreases-are_roots_exact : goal.decreases-are_roots_exact
decreases-are_roots_exact l = l.count
