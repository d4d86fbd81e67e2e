use Rattle.std.proofs.Common.{inr, ◌≡◌, ◌++◌, ◌∙◌, ◌<◌, List, ℕ, suc, IsTrue, sym, subst, ap, arith}
use Rattle.std.proofs.lemmas.Bool.{false≢true}
use Rattle.std.proofs.lemmas.List.Sorted.{IsPermutation-sym}
use Rattle.bw_types.specs.declared.point.Point.{Point}
use Rattle.ports.specs.Pages.{PageMap}
use Rattle.cut_parts.specs.Borders.{MayBeBuilt}
use Rattle.cut_parts.specs.Parts.{points_of}
use Rattle.cut_parts.proofs.Orders.{may_in_any_order}
use Rattle.ba_tree.proofs.Cuts.{tree_has_part}
use Rattle.ba_tree.proofs.Slices.{kept_in_slice}
use Rattle.ba_tree.proofs.collecting.collect.Goals as goal

pub returns-then-not-may_be_built-clause-sound : goal.returns-then-not-may_be_built-clause-sound
returns-then-not-may_be_built-clause-sound g c = λ points page tells stands e.
    let b = g.B.BorderTree in
    let m : PageMap = g.P.Pages.map c.args.pages.now in
    let some : 0 < c.args.tree.now.levels = omega (arith, c.if-tree-eq0.false) in
    let k = tree_has_part b m c.args.tree.now points some stands in
    let items : c.collect_page.new.points.items ≡ points_of k.0 = c.in-Ok.ensures.points tells k.0 k.1.begins k.1.stood
    ∙ ap (λ (ps : List Point). ps ++ points_of k.0) c.new-points.ensures.items in
    let may : MayBeBuilt (suc b.DIMS) (points_of k.0) = may_in_any_order (suc b.DIMS) points (points_of k.0) (IsPermutation-sym (points_of k.0) points k.1.kept) stands.may_be in
    let here : MayBeBuilt (suc b.DIMS) c.as_mut_slice.result.now =
    subst (λ (ps : List Point). MayBeBuilt (suc b.DIMS) ps) (sym (c.as_mut_slice.ensures.value ∙ items)) may in
    let yes : IsTrue c.may_be_built.result =
    c.may_be_built.ensures.only (subst (λ (dims : ℕ). MayBeBuilt dims c.as_mut_slice.result.now) (sym c.dims_above.ensures.0) here) in
    absurd (false≢true (sym c.if-not-may_be_built.true ∙ yes))

pub returns-clause-points : goal.returns-clause-points
returns-clause-points g c = λ tells points stands.
    let b = g.B.BorderTree in
    let m : PageMap = g.P.Pages.map c.args.pages.now in
    let some : 0 < c.args.tree.now.levels = omega (arith, c.if-tree-eq0.false) in
    let k = tree_has_part b m c.args.tree.now points some stands in
    let items : c.collect_page.new.points.items ≡ points_of k.0 = c.in-Ok.ensures.points tells k.0 k.1.begins k.1.stood
    ∙ ap (λ (ps : List Point). ps ++ points_of k.0) c.new-points.ensures.items in
    kept_in_slice (points_of k.0) points c.collect_page.new.points.items c.as_mut_slice.result.now c.may_be_built.new.points c.collect_page.new.points.len
    items c.as_mut_slice.ensures.value c.as_mut_slice.ensures.len c.may_be_built.ensures.permutation k.1.kept

pub returns-then-not-may_be_built-clause-damaged : goal.returns-then-not-may_be_built-clause-damaged
returns-then-not-may_be_built-clause-damaged g c = λ page e tells.
    let b = g.B.BorderTree in
    let m : PageMap = g.P.Pages.map c.args.pages.now in
    let k = c.in-Ok.ensures.there tells in
    let items : c.collect_page.new.points.items ≡ points_of k.is.part = k.points ∙ ap (λ (ps : List Point). ps ++ points_of k.is.part) c.new-points.ensures.items in
    let same : page ≡ c.args.tree.now.root = cc in
    inr (inr (
      same,
      (
        k.is,
        λ may.
            let here : MayBeBuilt (suc b.DIMS) c.as_mut_slice.result.now =
            subst (λ (ps : List Point). MayBeBuilt (suc b.DIMS) ps) (sym (c.as_mut_slice.ensures.value ∙ items)) may in
            let yes : IsTrue c.may_be_built.result =
            c.may_be_built.ensures.only (subst (λ (dims : ℕ). MayBeBuilt dims c.as_mut_slice.result.now) (sym c.dims_above.ensures.0) here) in
            false≢true (sym c.if-not-may_be_built.true ∙ yes),
      ),
    ))
