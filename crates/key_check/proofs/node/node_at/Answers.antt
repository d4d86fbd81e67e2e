use Rattle.std.proofs.Common.{◌≡◌, IsTrue, List, Some, Ok, Result, Option, ap, sym, ◌∙◌, subst}
use Rattle.std.proofs.lemmas.Bool.{false≢true}
use Rattle.page_layout.specs.declared.sb_node.SbNode.{SbNode}
use Rattle.page_layout.specs.declared.sb_node.SbEntry.{SbEntry}
use Rattle.page_checks.specs.declared.fault.CheckFault.{CheckFault}
use Rattle.key_check.proofs.Nodes.{IsInPlace, stands_at, place_of}
use Rattle.key_check.proofs.node.node_at.Goals as goal

same_node : (a b : SbNode) → ◌≡◌ {A = Result (Option SbNode) CheckFault} (Ok (Some a)) (Ok (Some b)) → a ≡ b
same_node a b e = cc

pub returns-then-is_in_place-clause-some : goal.returns-then-is_in_place-clause-some
returns-then-is_in_place-clause-some g c = λ node e tells.
    let m = g.P.Pages.map c.args.pages.now in
    let place : IsInPlace c.as_slice.result.now c.args.reached.low c.args.reached.high c.args.reached.least = c.is_in_place.ensures.0 c.if-is_in_place.true in
    let here = subst (λ (es : List SbEntry). IsInPlace es c.args.reached.low c.args.reached.high c.args.reached.least) c.as_slice.ensures.value place in
    let s = stands_at m c.args.level c.args.reached.page c.args.reached.low c.args.reached.high c.args.reached.least c.in-Ok.node (c.in-Ok.ensures.found tells) c.in-Ok.ensures.fits here in
    (s.0, s.1 ∙ ap (λ (n : SbNode). n.entries.items) (same_node c.in-Ok.node node e))

pub returns-else-is_in_place-clause-none : goal.returns-else-is_in_place-clause-none
returns-else-is_in_place-clause-none g c = λ _ tells s.
    let m = g.P.Pages.map c.args.pages.now in
    let here = place_of m c.args.level c.args.reached.page c.args.reached.low c.args.reached.high c.args.reached.least c.in-Ok.node (c.in-Ok.ensures.found tells) c.in-Ok.ensures.fits s in
    let place : IsInPlace c.as_slice.result.now c.args.reached.low c.args.reached.high c.args.reached.least =
    subst (λ (es : List SbEntry). IsInPlace es c.args.reached.low c.args.reached.high c.args.reached.least) (sym c.as_slice.ensures.value) here in
    let yes : IsTrue c.is_in_place.result = c.is_in_place.ensures.1 place in
    absurd (false≢true (sym c.if-is_in_place.false ∙ yes))
