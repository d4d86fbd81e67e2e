use Rattle.page_layout.specs.TreeValue.{tree_at, tree_bytes}
use Rattle.page_layout.specs.Exact.{each_exact-step}
use Rattle.page_layout.proofs.Testing.{refused, rest_left}
use Rattle.page_layout.proofs.exact.+are_roots_exact.Goals as goal

pub returns-then-not-is_tree_exact : goal.returns-then-not-is_tree_exact
returns-then-not-is_tree_exact t c =
    let step = each_exact-step tree_bytes tree_at 28 c.args.count c.args.bytes.now c.if-count-eq0.false in
    refused _ c.if-not-is_tree_exact.true c.is_tree_exact.ensures.1 (λ e. (step.0 e).0)

pub returns : goal.returns
returns t c =
    rest_left (each_exact-step tree_bytes tree_at 28 c.args.count c.args.bytes.now c.if-count-eq0.false)
    (c.is_tree_exact.ensures.0 c.if-not-is_tree_exact.false) (rw c.skip.ensures.value at c.are_roots_exact.ensures)
