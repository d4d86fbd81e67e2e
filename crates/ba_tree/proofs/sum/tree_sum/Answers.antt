use Rattle.std.proofs.Common.{◌+◌, ◌≤◌, ℕ, suc, length, arith, ◌∙◌, subst}
use Rattle.bw_types.specs.Depths.{reads_within}
use Rattle.cut_parts.specs.Parts.{points_of}
use Rattle.ba_tree.proofs.Costs.{part_balanced, some_in_tree}
use Rattle.ba_tree.proofs.Sums.{sum_any_order}
use Rattle.ba_tree.proofs.sum.tree_sum.Goals as goal

pub returns-in-Err-clause-cost : goal.returns-in-Err-clause-cost
returns-in-Err-clause-cost g c = λ tells points stands balanced.
    let b = g.B.BorderTree in
    let m = g.P.Pages.map c.args.pages.now in
    let some = some_in_tree c.args.tree.now.levels (length points) stands.levels c.if-tree-eq0.false in
    let k = stands.part some in
    let counted : 1 ≤ c.args.tree.now.count = omega (arith, stands.count, some) in
    subst (λ (n : ℕ). g.P.Pages.gets c.page_sum.new.pages ≤ g.P.Pages.gets c.args.pages.now + reads_within b.cost n n) stands.count
    (c.in-Err.ensures.cost tells c.border_laws.ensures.laws.is_cost k.0 k.1.begins k.1.stood
    (part_balanced b m c.args.tree.now points k.0 k.1 balanced counted))

pub returns-in-Ok-clause-cost : goal.returns-in-Ok-clause-cost
returns-in-Ok-clause-cost g c = λ tells points stands balanced.
    let b = g.B.BorderTree in
    let m = g.P.Pages.map c.args.pages.now in
    let some = some_in_tree c.args.tree.now.levels (length points) stands.levels c.if-tree-eq0.false in
    let k = stands.part some in
    let counted : 1 ≤ c.args.tree.now.count = omega (arith, stands.count, some) in
    subst (λ (n : ℕ). g.P.Pages.gets c.page_sum.new.pages ≤ g.P.Pages.gets c.args.pages.now + reads_within b.cost n n) stands.count
    (c.in-Ok.ensures.cost tells c.border_laws.ensures.laws.is_cost k.0 k.1.begins k.1.stood
    (part_balanced b m c.args.tree.now points k.0 k.1 balanced counted))

pub returns-in-Ok-clause-sum : goal.returns-in-Ok-clause-sum
returns-in-Ok-clause-sum g c = λ tells points stands.
    let m = g.P.Pages.map c.args.pages.now in
    let some = some_in_tree c.args.tree.now.levels (length points) stands.levels c.if-tree-eq0.false in
    let k = stands.part some in
    c.in-Ok.ensures.sum tells k.0 k.1.begins k.1.stood ∙ sum_any_order (suc g.B.BorderTree.DIMS) (points_of k.0) points c.args.keys.now c.args.version k.1.kept

pub returns-in-Ok-clause-whole : goal.returns-in-Ok-clause-whole
returns-in-Ok-clause-whole g c = λ tells page way. c.in-Ok.ensures.whole tells page way.1
