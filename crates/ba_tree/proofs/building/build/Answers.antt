use Rattle.std.proofs.Common.{ℕ, ◌≤◌, length, refl, sym, ◌∙◌}
use Rattle.ba_tree.proofs.BuiltNumbers.{some_items}
use Rattle.ba_tree.proofs.Joining.{tree_built}
use Rattle.ba_tree.proofs.building.build.Goals as goal

pub returns-clause-built : goal.returns-clause-built
returns-clause-built g c = λ tells.
    let n : ℕ = length c.args.points.now in
    let some : 1 ≤ n = some_items n (sym c.is_empty.ensures ∙ c.if-is_empty.false) in
    tree_built g.B.BorderTree (g.S.Pages.map c.args.stage.now) (g.S.Pages.map c.build_page.new.stage) c.args.points.now _ some c.requires.points refl
    c.levels_of-levels.ensures refl refl (c.in_ok-root.ensures.built tells)
