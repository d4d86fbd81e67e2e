use Rattle.std.proofs.Common.{◌≡◌, List, Ok, sym, ◌∙◌, ap, subst}
use Rattle.std.specs.List.{All}
use Rattle.std.proofs.lemmas.Bool.{false≢true}
use Rattle.ports.specs.Pages.{PageMap}
use Rattle.page_layout.specs.Footprint.{NamesNoneTwice}
use Rattle.key_check.specs.declared.corner.Corner.{Corner}
use Rattle.key_check.specs.Sums.{SumOverVersions}
use Rattle.key_check.specs.Steps.{AreResidues, jumps}
use Rattle.key_check.specs.Walks.{IsWalk}
use Rattle.key_check.proofs.Deciding.{AreMarked, marked_of, stands, sums_of}
use Rattle.key_check.proofs.Jumping.{keys_are_zero}
use Rattle.key_check.proofs.version_tree.version_tree_stands.Goals as goal

pub returns-then-not-branch-clause-stands : goal.returns-then-not-branch-clause-stands
returns-then-not-branch-clause-stands g c = λ tells.
    let m : PageMap = g.P.Pages.map c.args.pages.now in
    let w : IsWalk m c.args.tree.now c.in-Some.walk = c.in_ok-walk.ensures.some c.in-Some.walk (ap Ok c.in-Some.is) tells in (
      λ never. absurd (false≢true never),
      λ both. sym c.if-not-branch.true ∙ c.in_ok-are_marked.ensures.1 (subst (AreMarked c.args.points.now) (sym c.as_slice.ensures.value) (marked_of m c.args.tree.now c.args.points.now c.in-Some.walk both.0 w)),
    )

pub sum_over_versions-requires : goal.sum_over_versions-requires
sum_over_versions-requires g c = subst (λ (cs : List Corner). All (λ x. x.key ≡ 0) cs) (sym c.in_ok-corners.ensures.jumps) (keys_are_zero _ 0)

pub returns-clause-stands : goal.returns-clause-stands
returns-clause-stands g c = λ tells.
    let m : PageMap = g.P.Pages.map c.args.pages.now in
    let w : IsWalk m c.args.tree.now c.in-Some.walk = c.in_ok-walk.ensures.some c.in-Some.walk (ap Ok c.in-Some.is) tells in
    let numbers = c.has_numbers_of.ensures.0 c.if-not-has_numbers_of.false in
    let once : NamesNoneTwice c.in-Some.walk.named.items = subst NamesNoneTwice c.as_mut_slice.ensures.value (c.name_none_twice.ensures.once.0 c.if-not-name_none_twice.false) in
    let marked : AreMarked c.args.points.now c.in-Some.walk.steps.items = subst (AreMarked c.args.points.now) c.as_slice.ensures.value (c.in_ok-are_marked.ensures.0 c.if-not-branch.false) in
    let typed : AreResidues c.in-Some.walk.steps.items = subst AreResidues c.as_slice-2.ensures.value c.in_ok-corners.ensures.typed in
    let same : c.in_ok-corners.corners.items ≡ jumps 0 c.in-Some.walk.steps.items = c.in_ok-corners.ensures.jumps ∙ ap (jumps 0) c.as_slice-2.ensures.value in (
      λ yes.
          let sums : SumOverVersions (jumps 0 c.in-Some.walk.steps.items) c.args.points.now = subst (λ (cs : List Corner). SumOverVersions cs c.args.points.now) same (c.in_ok-sum_over_versions.ensures.0 yes) in
          (stands m c.args.tree.now c.args.points.now c.in-Some.walk numbers.0 w once marked typed sums, numbers.1),
      λ both. c.in_ok-sum_over_versions.ensures.1 (subst (λ (cs : List Corner). SumOverVersions cs c.args.points.now) (sym same)
          (sums_of m c.args.tree.now c.args.points.now c.in-Some.walk both.0 w typed)),
    )
