use Rattle.std.proofs.Common.{◌^◌, List, [], IsPermutation, Ok, ap, sym, subst}
use Rattle.std.specs.List.Sorted.{IsNonDecreasing}
use Rattle.std.proofs.lemmas.Bool.{false≢true}
use Rattle.std.proofs.lemmas.List.Sorted.{IsNonDecreasingBy-from_sort, IsPermutation-sym}
use Rattle.ports.specs.Pages.{PageMap}
use Rattle.key_check.specs.declared.corner.Corner.{Corner}
use Rattle.key_check.specs.KeyTrees.{AddsRoots, RootsKeep}
use Rattle.key_check.proofs.Moving.{keeps_moved}
use Rattle.key_check.proofs.RootSteps.{sums_are_totals}
use Rattle.key_check.proofs.roots.roots_stand.Goals as goal

pub walk_roots-requires : goal.walk_roots-requires
walk_roots-requires g c = subst IsNonDecreasing (sym c.as_slice.ensures.value) (IsNonDecreasingBy-from_sort (λ x. x) _ c.sort_unstable.ensures.sorted)

pub returns-then-not-branch-clause-stands : goal.returns-then-not-branch-clause-stands
returns-then-not-branch-clause-stands g c = λ tells a.
    let m : PageMap = g.P.Pages.map c.args.pages.now in
    let same : IsPermutation c.args.nodes.items c.as_slice.result.now = subst (IsPermutation c.args.nodes.items) (sym c.as_slice.ensures.value) c.sort_unstable.ensures.permutation in (
      λ never. absurd (false≢true never),
      λ both. absurd (c.in_ok-walk_roots.ensures.refused (ap Ok c.if-not-branch.true) tells a
          (keeps_moved m c.args.nodes.items c.as_slice.result.now c.args.count c.args.steps.now (2 ^ 32) same both.0)),
    )

pub returns-clause-stands : goal.returns-clause-stands
returns-clause-stands g c = λ tells a.
    let m : PageMap = g.P.Pages.map c.args.pages.now in
    let same : IsPermutation c.args.nodes.items c.as_slice.result.now = subst (IsPermutation c.args.nodes.items) (sym c.as_slice.ensures.value) c.sort_unstable.ensures.permutation in
    let keeps : RootsKeep m c.args.nodes.items c.args.count c.args.steps.now (2 ^ 32) =
    keeps_moved m c.as_slice.result.now c.args.nodes.items c.args.count c.args.steps.now (2 ^ 32) (IsPermutation-sym c.args.nodes.items c.as_slice.result.now same)
    (c.in_ok-walk_roots.ensures.stands (ap Ok c.if-not-branch.false) tells a) in
    let adds : AddsRoots m c.args.steps.now (2 ^ 32) [] c.walk_roots.new.corners.items =
    subst (λ (cs : List Corner). AddsRoots m c.args.steps.now (2 ^ 32) cs c.walk_roots.new.corners.items) c.new-corners.ensures.items
    (c.in_ok-walk_roots.ensures.totals (ap Ok c.if-not-branch.false) tells a) in
    let both = sums_are_totals m c.args.steps.now c.args.points.now c.walk_roots.new.corners.items adds in (
      λ yes. (keeps, both.0 (c.in_ok-sum_over_keys.ensures.0 yes)),
      λ all. c.in_ok-sum_over_keys.ensures.1 (both.1 all.1),
    )
