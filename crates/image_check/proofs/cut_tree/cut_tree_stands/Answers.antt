use Rattle.std.proofs.Common.{◌++◌, ◌≤◌, ℕ, List, suc, IsTrue, sym, subst, arith}
use Rattle.std.specs.Prelude.{IsPermutation}
use Rattle.ports.specs.Pages.{PageMap}
use Rattle.cut_parts.specs.Borders.{MayBeBuilt}
use Rattle.cut_parts.specs.Standing.{CutsBalanced, CutsStand}
use Rattle.image_check.proofs.WholeParts.{decided, part_stands, standing_part}
use Rattle.image_check.proofs.cut_tree.cut_tree_stands.Goals as goal

pub returns-clause-stands : goal.returns-clause-stands
returns-clause-stands g c =
    let b = g.B.BorderTree in
    let m : PageMap = g.P.Pages.map c.args.pages.now in
    let numbers = c.has_numbers_of.ensures.0 c.if-not-has_numbers_of.false in
    let may : MayBeBuilt (suc b.DIMS) c.args.points.now =
    subst (λ (dims : ℕ). MayBeBuilt dims c.args.points.now) c.dims_above.ensures.0 (c.in_ok-are_buildable.ensures.0 c.if-not-branch.false) in
    let some : 1 ≤ c.args.tree.now.count = omega (arith, c.if-tree-eq0.false) in
    decided c.part_stands.result (IsTrue (g.P.Pages.tells c.args.pages.now)) (CutsStand b m c.args.tree.now c.args.points.now × CutsBalanced b m c.args.tree.now)
    (λ yes tells.
    let k = c.part_stands.ensures.whole yes tells may in
    let all = part_stands b m c.args.tree.now c.args.points.now numbers may some k.part k.is in
    (all.0, all.1))
    (λ wrong tells both.
    let k = standing_part b m c.args.tree.now c.args.points.now some both.0 both.1 in
    c.part_stands.ensures.none wrong tells may k.0 k.1)

pub returns-clause-named : goal.returns-clause-named
returns-clause-named g c = λ yes tells.
    let b = g.B.BorderTree in
    let m : PageMap = g.P.Pages.map c.args.pages.now in
    let numbers = c.has_numbers_of.ensures.0 c.if-not-has_numbers_of.false in
    let may : MayBeBuilt (suc b.DIMS) c.args.points.now =
    subst (λ (dims : ℕ). MayBeBuilt dims c.args.points.now) c.dims_above.ensures.0 (c.in_ok-are_buildable.ensures.0 c.if-not-branch.false) in
    let some : 1 ≤ c.args.tree.now.count = omega (arith, c.if-tree-eq0.false) in
    let k = c.part_stands.ensures.whole yes tells may in
    let all = part_stands b m c.args.tree.now c.args.points.now numbers may some k.part k.is in
    subst (λ (ps : List ℕ). IsPermutation (c.args.named.now.items ++ ps) c.part_stands.new.named.items) (sym all.2) k.names
