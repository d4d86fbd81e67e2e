use Rattle.std.proofs.Common.{ℕ, length, sym, ap, arith}
use Rattle.bw_types.specs.Depths.{added_pages}
use Rattle.cut_parts.specs.Standing.{cuts_growth}
use Rattle.ba_tree.specs.contracts.key_tree.KeyTreeBorderTree.TheImpl as key
use Rattle.ba_tree.specs.contracts.plane_tree.PlaneTreeBorderTree.TheImpl as plane
use Rattle.ba_tree.proofs.Cases.{add_damaged_at, balanced_at, becomes_at, change_at, growth_over, is_three, low_after, new_at, pages_at, stands_at}
use Rattle.ba_tree.proofs.add_point.add_point.Goals as goal

pub returns-in-Err-clause-damaged : goal.returns-in-Err-clause-damaged
returns-in-Err-clause-damaged g c = λ page e tells.
    add_damaged_at _ _ 1 _ _ page c.if-dims-eq1.true (c.in-Err.ensures.damaged page e tells)

pub returns-in-Err-tree_add-clause-damaged : goal.returns-in-Err-tree_add-clause-damaged
returns-in-Err-tree_add-clause-damaged g c = λ page e tells.
    add_damaged_at _ _ 2 _ _ page c.if-dims-eq2.true (c.in-Err-tree_add.ensures.damaged page e tells)

pub returns-in-Err-tree_add-clause-sound : goal.returns-in-Err-tree_add-clause-sound
returns-in-Err-tree_add-clause-sound g c = λ points page tells stands new balanced free.
    c.in-Err-tree_add.ensures.sound points page tells (stands_at _ _ 2 _ points c.if-dims-eq2.true stands) (new_at _ 2 points _ c.if-dims-eq2.true new)
    (balanced_at _ _ 2 _ c.if-dims-eq2.true balanced) free

pub returns-in-Ok-tree_add-clause-growth : goal.returns-in-Ok-tree_add-clause-growth
returns-in-Ok-tree_add-clause-growth g c = λ tells points stands new balanced.
    let same = c.if-dims-eq2.true in
    let before = g.S.Pages.map c.args.stage.now in
    let stood = stands_at before c.args.dims 2 c.args.tree.now points same stands in
    let is_new = new_at c.args.dims 2 points c.args.point.now same new in
    let low = balanced_at before c.args.dims 2 c.args.tree.now same balanced in
    growth_over g.S.Pages c.args.dims (length points) (cuts_growth key.ghosts (length points)) c.args.tree.now.levels c.args.tree.now.count c.args.stage.now
    c.tree_add.new.stage _ (omega (arith, same)) stood.levels stood.count (ap (λ (d : ℕ). added_pages d (length points)) (sym same))
    (c.in-Ok-tree_add.ensures.growth tells points stood is_new low) (c.in-Ok-tree_add.ensures.small tells points stood is_new low)

pub returns-in-Err-tree_add-2-clause-damaged : goal.returns-in-Err-tree_add-2-clause-damaged
returns-in-Err-tree_add-2-clause-damaged g c = λ page e tells.
    let same = is_three c.args.dims c.requires.dims.0 c.requires.dims.1 c.if-dims-eq1.false c.if-dims-eq2.false in
    add_damaged_at _ _ 3 _ _ page same (c.in-Err-tree_add-2.ensures.damaged page e tells)

pub returns-in-Err-tree_add-2-clause-sound : goal.returns-in-Err-tree_add-2-clause-sound
returns-in-Err-tree_add-2-clause-sound g c = λ points page tells stands new balanced free.
    let same = is_three c.args.dims c.requires.dims.0 c.requires.dims.1 c.if-dims-eq1.false c.if-dims-eq2.false in
    c.in-Err-tree_add-2.ensures.sound points page tells (stands_at _ _ 3 _ points same stands) (new_at _ 3 points _ same new) (balanced_at _ _ 3 _ same balanced) free

pub returns-in-Err-tree_add-2-clause-growth : goal.returns-in-Err-tree_add-2-clause-growth
returns-in-Err-tree_add-2-clause-growth g c = λ tells points stands new balanced.
    let same = is_three c.args.dims c.requires.dims.0 c.requires.dims.1 c.if-dims-eq1.false c.if-dims-eq2.false in
    let before = g.S.Pages.map c.args.stage.now in
    let stood = stands_at before c.args.dims 3 c.args.tree.now points same stands in
    let is_new = new_at c.args.dims 3 points c.args.point.now same new in
    let low = balanced_at before c.args.dims 3 c.args.tree.now same balanced in
    growth_over g.S.Pages c.args.dims (length points) (cuts_growth plane.ghosts (length points)) c.args.tree.now.levels c.args.tree.now.count c.args.stage.now
    c.tree_add-2.new.stage _ (omega (arith, same)) stood.levels stood.count (ap (λ (d : ℕ). added_pages d (length points)) (sym same))
    (c.in-Err-tree_add-2.ensures.growth tells points stood is_new low) (c.in-Err-tree_add-2.ensures.small tells points stood is_new low)

pub returns-in-Ok-tree_add-2-clause-change : goal.returns-in-Ok-tree_add-2-clause-change
returns-in-Ok-tree_add-2-clause-change g c = λ tells points stands new.
    let same = is_three c.args.dims c.requires.dims.0 c.requires.dims.1 c.if-dims-eq1.false c.if-dims-eq2.false in
    let added = c.in-Ok-tree_add-2.ensures.added tells points (stands_at _ _ 3 _ points same stands) (new_at _ 3 points _ same new) in
    pages_at _ _ _ 3 _ _ same added.change

pub returns-in-Ok-tree_add-2-clause-low : goal.returns-in-Ok-tree_add-2-clause-low
returns-in-Ok-tree_add-2-clause-low g c = λ tells points stands new two room.
    let same = is_three c.args.dims c.requires.dims.0 c.requires.dims.1 c.if-dims-eq1.false c.if-dims-eq2.false in
    let stood = stands_at (g.S.Pages.map c.args.stage.now) c.args.dims 3 c.args.tree.now points same stands in
    let added = c.in-Ok-tree_add-2.ensures.added tells points stood (new_at _ 3 points _ same new) in
    low_after (length points) c.args.tree.now.levels c.tree_add-2.new.tree.levels c.args.tree.now.count stood.levels stood.count added.stood.levels room

pub returns-in-Ok-tree_add-2-clause-growth : goal.returns-in-Ok-tree_add-2-clause-growth
returns-in-Ok-tree_add-2-clause-growth g c = λ tells points stands new balanced.
    let same = is_three c.args.dims c.requires.dims.0 c.requires.dims.1 c.if-dims-eq1.false c.if-dims-eq2.false in
    let before = g.S.Pages.map c.args.stage.now in
    let stood = stands_at before c.args.dims 3 c.args.tree.now points same stands in
    let is_new = new_at c.args.dims 3 points c.args.point.now same new in
    let low = balanced_at before c.args.dims 3 c.args.tree.now same balanced in
    growth_over g.S.Pages c.args.dims (length points) (cuts_growth plane.ghosts (length points)) c.args.tree.now.levels c.args.tree.now.count c.args.stage.now
    c.tree_add-2.new.stage _ (omega (arith, same)) stood.levels stood.count (ap (λ (d : ℕ). added_pages d (length points)) (sym same))
    (c.in-Ok-tree_add-2.ensures.growth tells points stood is_new low) (c.in-Ok-tree_add-2.ensures.small tells points stood is_new low)

pub returns-in-Ok-clause-becomes : goal.returns-in-Ok-clause-becomes
returns-in-Ok-clause-becomes g c = λ tells. becomes_at _ _ 1 _ _ _ c.if-dims-eq1.true (c.in-Ok.ensures.becomes tells)

pub returns-in-Ok-tree_add-clause-becomes : goal.returns-in-Ok-tree_add-clause-becomes
returns-in-Ok-tree_add-clause-becomes g c = λ tells.
    becomes_at _ _ 2 _ _ _ c.if-dims-eq2.true (record { count = c.in-Ok-tree_add.ensures.count; root = c.in-Ok-tree_add.ensures.root tells })

pub returns-in-Ok-tree_add-2-clause-becomes : goal.returns-in-Ok-tree_add-2-clause-becomes
returns-in-Ok-tree_add-2-clause-becomes g c = λ tells.
    let same = is_three c.args.dims c.requires.dims.0 c.requires.dims.1 c.if-dims-eq1.false c.if-dims-eq2.false in
    becomes_at _ _ 3 _ _ _ same (record { count = c.in-Ok-tree_add-2.ensures.count; root = c.in-Ok-tree_add-2.ensures.root tells })

pub returns-in-Ok-clause-apart : goal.returns-in-Ok-clause-apart
returns-in-Ok-clause-apart g c = λ tells page some not_changed.
    c.in-Ok.ensures.apart tells page some (λ may. not_changed (change_at _ _ 1 _ _ page c.if-dims-eq1.true may))

pub returns-in-Ok-tree_add-2-clause-apart : goal.returns-in-Ok-tree_add-2-clause-apart
returns-in-Ok-tree_add-2-clause-apart g c = λ tells page some not_changed.
    let same = is_three c.args.dims c.requires.dims.0 c.requires.dims.1 c.if-dims-eq1.false c.if-dims-eq2.false in
    c.in-Ok-tree_add-2.ensures.apart tells page some (λ may. not_changed (change_at _ _ 3 _ _ page same may))
