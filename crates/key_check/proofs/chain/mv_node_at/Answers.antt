use Rattle.std.proofs.Common.{◌≡◌, Ok, Some, Result, Option, subst}
use Rattle.ports.specs.Pages.{PageMap}
use Rattle.page_layout.specs.declared.mv_node.MvNode.{MvNode}
use Rattle.key_check.specs.Chains.{HoldsThis}
use Rattle.page_checks.specs.declared.fault.CheckFault.{CheckFault}
use Rattle.key_check.proofs.Chaining.{holds_this}
use Rattle.key_check.proofs.chain.mv_node_at.Goals as goal

same_node : (a b : MvNode) → ◌≡◌ {A = Result (Option MvNode) CheckFault} (Ok (Some a)) (Ok (Some b)) → a ≡ b
same_node a b e = cc

pub returns-in-Ok-clause-some : goal.returns-in-Ok-clause-some
returns-in-Ok-clause-some g c = λ node e tells.
    let m : PageMap = g.P.Pages.map c.args.pages.now in
    subst (λ (n : MvNode). HoldsThis m c.args.page n) (same_node c.in-Ok.node node e) (holds_this m c.args.page c.in-Ok.node (c.in-Ok.ensures.found tells) c.in-Ok.ensures.spells)
