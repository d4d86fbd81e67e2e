use Rattle.sb_tree.proofs.Common.{Some, ◌≡◌, ◌<◌, ◌^◌, inl, inr, IsTrue, List, [], ◌∷◌, Err, arith, sym, ap, ◌∙◌, refl, rules, err_from_is_err_and, Point, PageMap, IsRaised, SecondFits, SbStands, tree_pages}
use Rattle.ports.specs.declared.page.StageFault.TheVariants.{Damaged}
use Rattle.sb_tree.proofs.Exits.{exit_error, same_damaged}
use Rattle.sb_tree.proofs.Sound.{tree_undamaged}
use Rattle.sb_tree.proofs.Growing.{grown_stands, grown_none, grown_split, grown_leaf, raised_of_tree, second_of_tree, root_spelled, few_levels, balanced_whole, balanced_first, balanced_split, full_there, full_root, bytes_of, Grown}
use Rattle.sb_tree.proofs.Outside.{given_outside, not_missing}
use Rattle.sb_tree.proofs.add.sb_add.Goals.{In_ok-add_below, In-Some, then-tree-ge16-via-then-tree-ge16, then-tree-ge16-via-else-tree-ge16+then-tree-lt3}
use Rattle.sb_tree.proofs.add.sb_add.Given
use Rattle.sb_tree.proofs.add.sb_add.Goals as goal

pub returns-then-tree-eq0-clause-stands : goal.returns-then-tree-eq0-clause-stands
returns-then-tree-eq0-clause-stands g c = λ tells points p s few version weight.
    grown_stands s few version weight c.grown.ensures.count c.grown.ensures.changes c.grown.ensures.last (omega (arith, c.grown.ensures.levels))
    (grown_leaf c.if-tree-eq0.true c.grown.ensures.root c.grown.ensures.levels (omega (arith, c.ranges.version.fits)) (omega (arith, c.ranges.value.fits)) (c.in_ok-root.ensures.made tells))

pub returns-then-tree-eq0-clause-balanced : goal.returns-then-tree-eq0-clause-balanced
returns-then-tree-eq0-clause-balanced g c = search (rules, balanced_first)

pub returns-in_err-add_below-clause-damaged : goal.returns-in_err-add_below-clause-damaged
returns-in_err-add_below-clause-damaged g c = λ page e tells.
    let p = err_from_is_err_and c.from_residual-in_err-add_below.result c.from_residual-in_err-add_below.ensures.1 in
    let same = exit_error c.from_residual-in_err-add_below.result c.in_err-add_below.field-0.0 (Damaged page) p e in
    elim (c.in_err-add_below.ensures.damaged page (ap Err same) tells) [
      | inl why ↦ search rules
      | inr unordered ↦ inr (inr (inr unordered))
    ]

pub returns-in_err-add_below-clause-sound : goal.returns-in_err-add_below-clause-sound
returns-in_err-add_below-clause-sound g c = λ points page tells s few balanced ordered e.
    let p = err_from_is_err_and c.from_residual-in_err-add_below.result c.from_residual-in_err-add_below.ensures.1 in
    let same = exit_error c.from_residual-in_err-add_below.result c.in_err-add_below.field-0.0 (Damaged page) p e in
    elim (c.in_err-add_below.ensures.damaged page (ap Err same) tells) [
      | inl why ↦ search (rules, tree_undamaged)
      | inr unordered ↦ unordered ordered
    ]

pub returns-then-tree-ge16-clause-damaged : goal.returns-then-tree-ge16-clause-damaged
returns-then-tree-ge16-clause-damaged g c = λ page e tells.
    let root_is : page ≡ c.args.tree.now.root = same_damaged page c.args.tree.now.root (sym e) in
    let full = full_root c.args.tree.now.levels (g.S.Pages.map c.args.stage.now) c.args.tree.now.root c.args.version c.root_place-place.result c.in_ok-add_below.field-0 c.in-Some.second
    c.root_place-place.ensures c.in-Some.is (c.in_ok-add_below.ensures.full tells) in
    elim c.then-tree-ge16.branch [
      | then-tree-ge16-via-then-tree-ge16 w ↦
          let sixteen : c.args.tree.now.levels ≡ 16 = omega (arith, w.if-tree-ge16.true, c.in_ok-add_below.ensures.level) in
          inr (inr (inl (root_is, sixteen, rw sixteen at full)))
      | then-tree-ge16-via-else-tree-ge16+then-tree-lt3 w ↦ search (rules, bytes_of, full_there)
    ]

pub returns-then-tree-ge16-clause-sound : goal.returns-then-tree-ge16-clause-sound
returns-then-tree-ge16-clause-sound g c = λ points page tells s few balanced ordered e.
    let low = few_levels (g.S.Pages.map c.args.stage.now) c.args.tree.now points s few balanced in
    elim c.then-tree-ge16.branch [
      | then-tree-ge16-via-then-tree-ge16 w ↦ omega (arith, low, w.if-tree-ge16.true)
      | then-tree-ge16-via-else-tree-ge16+then-tree-lt3 w ↦
          let three = g.met.S.Stage.from_three c.args.stage.now c.args.tree.now.root _ tells (root_spelled c.args.tree.now.levels (g.S.Pages.map c.args.stage.now) c.args.tree.now.root (omega (arith, c.if-tree-eq0.false)) s.nodes) in
          omega (arith, three, w.if-tree-lt3.true)
    ]

pub new_root-requires-clause-pages : goal.new_root-requires-clause-pages
new_root-requires-clause-pages g c = search (rules, second_of_tree)

-- What stands below the root after the call for it.
raised : (g : Given.Over) (c : In_ok-add_below g) → IsTrue (g.S.Pages.tells c.args.stage.now) → (points : List Point) → SbStands (g.S.Pages.map c.args.stage.now) c.args.tree.now points
    → IsRaised c.args.tree.now.levels (g.S.Pages.map c.args.stage.now) (g.S.Pages.map c.add_below.new.stage) c.args.tree.now.root 0 (2 ^ 32) 1 c.args.version c.args.value c.in_ok-add_below.field-0
raised g c tells points s = raised_of_tree (omega (arith, c.if-tree-eq0.false)) c.root_place-place.ensures s.nodes s.once (c.in_ok-add_below.ensures.raised tells)

grown_beside : (g : Given.Over) (c : goal.After-grown-in-None g) → IsTrue (g.S.Pages.tells c.args.stage.now) → (points : List Point) → SbStands (g.S.Pages.map c.args.stage.now) c.args.tree.now points
    → Grown c.args.tree.now.levels c.grown-in-None.result.levels (g.S.Pages.map c.args.stage.now) (g.S.Pages.map c.add_below.new.stage) c.args.tree.now.root c.grown-in-None.result.root c.args.version c.args.value
grown_beside g c tells points s =
    grown_none c.in-None.is (omega (arith, c.if-tree-eq0.false)) c.grown-in-None.ensures.root c.grown-in-None.ensures.levels (raised g (goal.at.returns-in-None-clause-stands g c).In_ok-add_below tells points s)

pub returns-in-None-clause-stands : goal.returns-in-None-clause-stands
returns-in-None-clause-stands g c = λ tells points p s few version weight.
    grown_stands s few version weight c.grown-in-None.ensures.count c.grown-in-None.ensures.changes c.grown-in-None.ensures.last (omega (arith, c.grown-in-None.ensures.levels, c.if-tree-eq0.false))
    (grown_beside g c tells points s)

pub returns-in-None-clause-balanced : goal.returns-in-None-clause-balanced
returns-in-None-clause-balanced g c = search (rules, balanced_whole)

pub returns-in-None-clause-change : goal.returns-in-None-clause-change
returns-in-None-clause-change g c = λ tells points s. (grown_beside g c tells points s).change

second : (g : Given.Over) (c : In-Some g) → SecondFits 0 (2 ^ 32) (Some c.in-Some.second)
second g c = second_of_tree c.root_place-place.ensures c.in-Some.is c.in_ok-add_below.ensures.second

-- The number of the root, which is in the map.
root_fits : (g : Given.Over) (c : goal.After-grown-in-Some g) → IsTrue (g.S.Pages.tells c.args.stage.now) → (points : List Point) → SbStands (g.S.Pages.map c.args.stage.now) c.args.tree.now points → c.args.tree.now.root < 2 ^ 64
root_fits g c tells points s =
    let there = root_spelled c.args.tree.now.levels (g.S.Pages.map c.args.stage.now) c.args.tree.now.root (omega (arith, c.if-tree-eq0.false)) s.nodes in
    omega (arith, g.met.S.Stage.below_allotted c.args.stage.now c.args.tree.now.root _ tells there, g.met.S.Stage.within_limit c.args.stage.now, g.met.S.Stage.limit_fits c.args.stage.now)

grown_above : (g : Given.Over) (c : goal.After-grown-in-Some g) → IsTrue (g.S.Pages.tells c.args.stage.now) → (points : List Point) → SbStands (g.S.Pages.map c.args.stage.now) c.args.tree.now points
    → Grown c.args.tree.now.levels c.grown-in-Some.result.levels (g.S.Pages.map c.args.stage.now) (g.S.Pages.map c.new_root.new.stage) c.args.tree.now.root c.grown-in-Some.result.root c.args.version c.args.value
grown_above g c tells points s =
    let at = goal.at.returns-in_ok-root-in-Some-clause-stands g c in
    grown_split c.in-Some.is (omega (arith, c.if-tree-eq0.false)) c.if-tree-ge16.false c.grown-in-Some.ensures.root c.grown-in-Some.ensures.levels c.if-tree-lt3.false (root_fits g c tells points s) (second g at.In-Some)
    (raised g at.In_ok-add_below tells points s) (c.in_ok-root-in-Some.ensures.made (c.add_below.ensures.grows.went_on.tells ∙ tells))

pub returns-in_ok-root-in-Some-clause-stands : goal.returns-in_ok-root-in-Some-clause-stands
returns-in_ok-root-in-Some-clause-stands g c = λ tells points p s few version weight.
    grown_stands s few version weight c.grown-in-Some.ensures.count c.grown-in-Some.ensures.changes c.grown-in-Some.ensures.last (omega (arith, c.grown-in-Some.ensures.levels)) (grown_above g c tells points s)

pub returns-in_ok-root-in-Some-clause-balanced : goal.returns-in_ok-root-in-Some-clause-balanced
returns-in_ok-root-in-Some-clause-balanced g c = λ tells points s few balanced.
    let p : Point = record { keys = []; version = c.args.version; weight = c.args.value } in
    let stands = returns-in_ok-root-in-Some-clause-stands g c tells points p s few refl refl in
    let made = c.in_ok-root-in-Some.ensures.made (c.add_below.ensures.grows.went_on.tells ∙ tells) in
    balanced_split c.args.tree.now.levels (g.S.Pages.map c.new_root.new.stage) c.grown-in-Some.result (p ∷ points) c.args.tree.now.root c.in-Some.second (omega (arith, c.if-tree-eq0.false)) c.if-tree-ge16.false
    c.grown-in-Some.ensures.levels stands c.if-tree-lt3.false (root_fits g c tells points s) (second g (goal.at.returns-in_ok-root-in-Some-clause-balanced g c).In-Some)
    (ap (g.S.Pages.map c.new_root.new.stage) c.grown-in-Some.ensures.root ∙ made.1)

pub returns-in_ok-root-in-Some-clause-change : goal.returns-in_ok-root-in-Some-clause-change
returns-in_ok-root-in-Some-clause-change g c = λ tells points s. (grown_above g c tells points s).change

pub returns-then-tree-eq0-clause-renamed : goal.returns-then-tree-eq0-clause-renamed
returns-then-tree-eq0-clause-renamed g c = λ tells some outside.
    let made = c.in_ok-root.ensures.made tells in
    absurd (not_missing (g.S.Pages.map c.args.stage.now c.grown.result.root) (ap (g.S.Pages.map c.args.stage.now) c.grown.ensures.root ∙ made.0) some)

pub returns-in_ok-root-in-Some-clause-renamed : goal.returns-in_ok-root-in-Some-clause-renamed
returns-in_ok-root-in-Some-clause-renamed g c = λ tells some outside.
    let m1 : PageMap = g.S.Pages.map c.add_below.new.stage in
    let made = c.in_ok-root-in-Some.ensures.made (c.add_below.ensures.grows.went_on.tells ∙ tells) in
    absurd (given_outside (tree_pages (g.S.Pages.map c.args.stage.now) c.args.tree.now) (g.S.Pages.map c.args.stage.now) m1 c.grown-in-Some.result.root
    (c.in_ok-add_below.ensures.apart tells) (ap m1 c.grown-in-Some.ensures.root ∙ made.0) some outside)
