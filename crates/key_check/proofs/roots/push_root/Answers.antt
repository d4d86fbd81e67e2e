use Rattle.std.proofs.Common.{◌≡◌, ℕ, [], ◌∷◌, ◌++◌, Ok, ap, sym, ◌∙◌, subst, arith}
use Rattle.ports.specs.Pages.{PageMap}
use Rattle.key_check.specs.Chains.{HoldsNode}
use Rattle.key_check.proofs.RootPieces.{level_of, no_root, root_piece, some_root}
use Rattle.key_check.proofs.RootSteps.{lasts_holds}
use Rattle.key_check.proofs.roots.push_root.Goals as goal

pub returns-in_default-2-clause-refused : goal.returns-in_default-2-clause-refused
returns-in_default-2-clause-refused g c = λ _ tells begun nodes lasts.
    let m : PageMap = g.P.Pages.map c.args.pages.now in
    c.in_ok-node.ensures.none (ap Ok c.in_default-2.is) tells
    (subst (HoldsNode m) (omega (arith, c.in-Ok.ensures)) (lasts_holds m nodes c.args.count c.args.step.value c.args.step.version c.args.to c.if-step-eq0.false begun lasts))

pub returns-clause-pushes : goal.returns-clause-pushes
returns-clause-pushes g c = λ _ tells nodes.
    let m : PageMap = g.P.Pages.map c.args.pages.now in
    let root : ℕ = c.args.step.value in
    let held = c.in_ok-node.ensures.some c.in-Some.node (ap Ok c.in-Some.is) tells in
    let is : root ≡ c.in-Ok.page = omega (arith, c.in-Ok.ensures) in
    some_root m nodes c.args.count root c.args.step.version c.args.to c.in-Some.node.level c.if-step-eq0.false c.in-Ok.ensures.0
    (level_of m root c.in-Ok.page c.in-Some.node c.if-step-eq0.false is held.same) (c.has_digits.ensures.0 c.if-not-has_digits.false) c.args.rooted.now.items c.push_leveled.new.pieces.items
    (c.in_ok-push_leveled.ensures.items
    ∙ ap (λ (n : ℕ). c.args.rooted.now.items ++ root_piece c.in-Some.node.level n c.args.step.version c.args.to ∷ []) (sym is))

pub returns-then-step-eq0-clause-pushes : goal.returns-then-step-eq0-clause-pushes
returns-then-step-eq0-clause-pushes g c = λ _ tells nodes.
    no_root (g.P.Pages.map c.args.pages.now) nodes c.args.count c.args.step.value c.args.step.version c.args.to c.args.rooted.now.items c.if-step-eq0.true
