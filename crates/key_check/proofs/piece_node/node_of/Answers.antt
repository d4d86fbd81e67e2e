use Rattle.std.proofs.Common.{◌≡◌, List, Some, Ok, Result, Option, ap, sym, ◌∙◌, subst}
use Rattle.ports.specs.Pages.{PageMap}
use Rattle.page_layout.specs.declared.mv_node.MvNode.{MvNode}
use Rattle.page_layout.specs.declared.mv_node.MvEntry.{MvEntry}
use Rattle.page_checks.specs.declared.fault.CheckFault.{CheckFault}
use Rattle.key_check.specs.Chains.{HoldsThis}
use Rattle.key_check.specs.Pieces.{StandsThroughout}
use Rattle.key_check.proofs.PieceNodes.{node_there}
use Rattle.key_check.proofs.piece_node.node_of.Goals as goal

same_node : (a b : MvNode) → ◌≡◌ {A = Result (Option MvNode) CheckFault} (Ok (Some a)) (Ok (Some b)) → a ≡ b
same_node a b e = cc

pub returns-clause-some : goal.returns-clause-some
returns-clause-some g c = λ node e tells.
    let m : PageMap = g.P.Pages.map c.args.pages.now in
    let h : HoldsThis m c.args.piece.page c.in-Some.node = c.in_ok-node.ensures.some c.in-Some.node (ap Ok c.in-Some.is) tells in
    let cut : StandsThroughout c.in-Some.node.entries.items c.args.piece = subst (λ (es : List MvEntry). StandsThroughout es c.args.piece) c.as_slice.ensures.value (c.in_ok-stands_throughout.ensures.0 c.if-not-branch.false) in (
      node_there c.args.level m c.args.nodes.now c.args.piece c.in-Some.node (sym c.is_listed.ensures ∙ c.if-not-is_listed.false) h c.if-node-level.false cut,
      h.same ∙ same_node c.in-Some.node node e,
    )
