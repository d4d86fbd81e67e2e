use Rattle.std.proofs.Common.{◌≡◌, ℕ, ◌/◌, ◌<◌, ◌≤◌, ap, subst, suc, length, take, drop, List, slice_index, arith}
use Rattle.std.specs.List.{All}
use Rattle.std.proofs.lemmas.List.Sorted.{length_permutation}
use Rattle.bw_types.specs.declared.point.Point.{Point}
use Rattle.ba_tree.proofs.LeafHalves.{leaf_halves}
use Rattle.ba_tree.proofs.leaf.split_points.Goals as goal

pub returns-in-Ok-clause-split : goal.returns-in-Ok-clause-split
returns-in-Ok-clause-split g c = λ tells others point is.
    let fitted = c.may_be_built.new.points in
    let cut = c.median_cut-dimension.new.points in
    let dimension = c.median_cut-dimension.result.0 in
    let key = c.median_cut-dimension.result.1 in
    let first = c.may_be_built.ensures.permutation in
    let second = c.median_cut-dimension.ensures.permutation in
    let long = ap (λ (ps : List Point). length ps) is in
    let half : length cut / 2 ≡ 32 = omega (arith, c.requires, length_permutation c.args.points.now fitted first, length_permutation fitted cut second) in
    leaf_halves (suc g.B.BorderTree.DIMS) (g.S.Pages.map c.args.stage.now) (g.S.Pages.map c.put_halves.new.stage) c.args.page c.in-Ok.high dimension key others
    c.args.points.now fitted cut point (omega (arith, long, c.requires)) is first second (let d = c.median_cut-dimension.ensures.dimension in omega (arith, d, c.DIMS-2.ensures))
    (subst (λ (n : ℕ). All (λ (p : Point). slice_index p.keys dimension < key) (take n cut)) half c.median_cut-dimension.ensures.low)
    (subst (λ (n : ℕ). All (λ (p : Point). key ≤ slice_index p.keys dimension) (drop n cut)) half c.median_cut-dimension.ensures.high)
    (c.in-Ok.ensures.halves tells)
