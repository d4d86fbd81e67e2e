use Rattle.std.proofs.Common.{◌≡◌, ℕ, suc, ◌-◌, ◌≤◌, length, IsSome, refl, sym, subst, Err, inl, inr, ap, ◌∙◌, arith}
use Rattle.bw_types.specs.declared.tree.Tree.{Tree}
use Rattle.ports.specs.Pages.{PageMap}
use Rattle.ports.specs.declared.page.StageFault.{StageFault}
use Rattle.ports.specs.declared.page.StageFault.TheVariants.{Damaged}
use Rattle.dom_index.proofs.FirstPages.{not_missing}
use Rattle.cut_parts.specs.Damage.{BeforePage}
use Rattle.cut_parts.specs.Reach.{Leads, LeadsFrom}
use Rattle.cut_parts.specs.Standing.{cuts_growth}
use Rattle.cut_parts.proofs.Staying.{stay_more}
use Rattle.ba_tree.specs.Growing.{root_growth}
use Rattle.ba_tree.proofs.Going.{changes_as}
use Rattle.ba_tree.proofs.Naming.{one_names}
use Rattle.ba_tree.proofs.NewPoints.{with_new}
use Rattle.ba_tree.proofs.Numbers.{root_none, tree_number}
use Rattle.ba_tree.proofs.WholeTrees.{tree_balanced, tree_began, tree_takes, tree_took}
use Rattle.ba_tree.proofs.tree.tree_add.Goals as goal

pub returns-in-Ok-clause-added : goal.returns-in-Ok-clause-added
returns-in-Ok-clause-added g c = λ tells points s new.
    let b = g.B.BorderTree in
    let p = c.args.point.now in
    let three : length p.keys ≡ 3 = c.three_keys.ensures in
    let may = with_new (suc b.DIMS) points p s.may_be new c.requires.keys c.requires.version three in
    let made = c.in-Ok.ensures.made tells in
    tree_began b (g.S.Pages.map c.args.stage.now) (g.S.Pages.map c.first_leaf.new.stage) c.args.tree.now c.in-Ok.first points p c.if-tree-eq0.true s may made.0 made.1 c.in-Ok.ensures.tree.1

pub returns-in-Err-root_add-clause-sound : goal.returns-in-Err-root_add-clause-sound
returns-in-Err-root_add-clause-sound g c = λ points page tells s new balanced order e.
    let b = g.B.BorderTree in
    let m : PageMap = g.S.Pages.map c.args.stage.now in
    let p = c.args.point.now in
    let tree = c.args.tree.now in
    let not_none = c.if-tree-eq0.false in
    let some : 1 ≤ tree.count = omega (arith, not_none) in
    let three : length p.keys ≡ 3 = c.three_keys.ensures in
    let known = s.part (omega (arith, s.count, some)) in
    let take = tree_takes b m tree points known.0 p some s known.1 new three in
    let well = c.in-Err-root_add.ensures.well tells known.0 known.1.begins take (tree_balanced b m tree points known.0 some known.1 balanced) in
    well.sound order page cc

pub returns-in-Err-root_add-clause-growth : goal.returns-in-Err-root_add-clause-growth
returns-in-Err-root_add-clause-growth g c = λ tells points s new balanced.
    let b = g.B.BorderTree in
    let m : PageMap = g.S.Pages.map c.args.stage.now in
    let p = c.args.point.now in
    let tree = c.args.tree.now in
    let not_none = c.if-tree-eq0.false in
    let some : 1 ≤ tree.count = omega (arith, not_none) in
    let three : length p.keys ≡ 3 = c.three_keys.ensures in
    let known = s.part (omega (arith, s.count, some)) in
    let take = tree_takes b m tree points known.0 p some s known.1 new three in
    let well = c.in-Err-root_add.ensures.well tells known.0 known.1.begins take (tree_balanced b m tree points known.0 some known.1 balanced) in
    let most : root_growth b tree.count ≤ cuts_growth b (length points) = subst (λ (k : ℕ). root_growth b tree.count ≤ cuts_growth b k) s.count (tree_number b c.border_laws.ensures.laws tree.count) in
    changes_as g.S.Pages _ _ c.args.stage.now c.root_add.new.stage _ _ well most (λ f e. cc)

pub returns-in-Ok-root_add-clause-growth : goal.returns-in-Ok-root_add-clause-growth
returns-in-Ok-root_add-clause-growth g c = λ tells points s new balanced.
    let b = g.B.BorderTree in
    let m : PageMap = g.S.Pages.map c.args.stage.now in
    let p = c.args.point.now in
    let tree = c.args.tree.now in
    let not_none = c.if-tree-eq0.false in
    let some : 1 ≤ tree.count = omega (arith, not_none) in
    let three : length p.keys ≡ 3 = c.three_keys.ensures in
    let known = s.part (omega (arith, s.count, some)) in
    let take = tree_takes b m tree points known.0 p some s known.1 new three in
    let well = c.in-Ok-root_add.ensures.well tells known.0 known.1.begins take (tree_balanced b m tree points known.0 some known.1 balanced) in
    let most : root_growth b tree.count ≤ cuts_growth b (length points) = subst (λ (k : ℕ). root_growth b tree.count ≤ cuts_growth b k) s.count (tree_number b c.border_laws.ensures.laws tree.count) in
    changes_as g.S.Pages _ _ c.args.stage.now c.root_add.new.stage _ _ well most (λ f e. cc)

pub returns-in-Ok-root_add-clause-added : goal.returns-in-Ok-root_add-clause-added
returns-in-Ok-root_add-clause-added g c = λ tells points s new.
    let b = g.B.BorderTree in
    let m : PageMap = g.S.Pages.map c.args.stage.now in
    let p = c.args.point.now in
    let tree = c.args.tree.now in
    let not_none = c.if-tree-eq0.false in
    let some : 1 ≤ tree.count = omega (arith, not_none) in
    let three : length p.keys ≡ 3 = c.three_keys.ensures in
    let known = s.part (omega (arith, s.count, some)) in
    let take = tree_takes b m tree points known.0 p some s known.1 new three in
    let may = with_new (suc b.DIMS) points p s.may_be new c.requires.keys c.requires.version three in
    tree_took b m (g.S.Pages.map c.root_add.new.stage) tree c.tree_of.result points known.0 p c.in-Ok-root_add.root some s known.1 may
    (c.in-Ok-root_add.ensures.added tells known.0 known.1.begins take) c.tree_of.ensures

pub returns-in-Err-clause-small : goal.returns-in-Err-clause-small
returns-in-Err-clause-small g c = λ tells points s new balanced less.
    let none : c.args.tree.now.count ≡ 0 = c.if-tree-eq0.true in
    let most : 1 ≤ 1 - length points = omega (arith, s.count, none) in
    changes_as g.S.Pages _ _ c.args.stage.now c.first_leaf.new.stage _ _ (c.in-Err.ensures.well tells) most (λ f e. cc)

pub returns-in-Ok-clause-small : goal.returns-in-Ok-clause-small
returns-in-Ok-clause-small g c = λ tells points s new balanced less.
    let none : c.args.tree.now.count ≡ 0 = c.if-tree-eq0.true in
    let most : 1 ≤ 1 - length points = omega (arith, s.count, none) in
    changes_as g.S.Pages _ _ c.args.stage.now c.first_leaf.new.stage _ _ (c.in-Ok.ensures.well tells) most (λ f e. cc)

pub returns-in-Err-root_add-clause-small : goal.returns-in-Err-root_add-clause-small
returns-in-Err-root_add-clause-small g c = λ tells points s new balanced less.
    let b = g.B.BorderTree in
    let m : PageMap = g.S.Pages.map c.args.stage.now in
    let p = c.args.point.now in
    let tree = c.args.tree.now in
    let not_none = c.if-tree-eq0.false in
    let some : 1 ≤ tree.count = omega (arith, not_none) in
    let three : length p.keys ≡ 3 = c.three_keys.ensures in
    let known = s.part (omega (arith, s.count, some)) in
    let take = tree_takes b m tree points known.0 p some s known.1 new three in
    let well = c.in-Err-root_add.ensures.well tells known.0 known.1.begins take (tree_balanced b m tree points known.0 some known.1 balanced) in
    let none = root_none b c.border_laws.ensures.laws tree.count (omega (arith, s.count, less)) in
    let most : root_growth b tree.count ≤ 1 - length points = omega (arith, none) in
    changes_as g.S.Pages _ _ c.args.stage.now c.root_add.new.stage _ _ well most (λ f e. cc)

pub returns-in-Ok-root_add-clause-small : goal.returns-in-Ok-root_add-clause-small
returns-in-Ok-root_add-clause-small g c = λ tells points s new balanced less.
    let b = g.B.BorderTree in
    let m : PageMap = g.S.Pages.map c.args.stage.now in
    let p = c.args.point.now in
    let tree = c.args.tree.now in
    let not_none = c.if-tree-eq0.false in
    let some : 1 ≤ tree.count = omega (arith, not_none) in
    let three : length p.keys ≡ 3 = c.three_keys.ensures in
    let known = s.part (omega (arith, s.count, some)) in
    let take = tree_takes b m tree points known.0 p some s known.1 new three in
    let well = c.in-Ok-root_add.ensures.well tells known.0 known.1.begins take (tree_balanced b m tree points known.0 some known.1 balanced) in
    let none = root_none b c.border_laws.ensures.laws tree.count (omega (arith, s.count, less)) in
    let most : root_growth b tree.count ≤ 1 - length points = omega (arith, none) in
    changes_as g.S.Pages _ _ c.args.stage.now c.root_add.new.stage _ _ well most (λ f e. cc)

-- ---- whatever the pages hold

pub returns-in-Ok-root_add-clause-apart : goal.returns-in-Ok-root_add-clause-apart
returns-in-Ok-root_add-clause-apart g c = λ tells.
    let b = g.B.BorderTree in
    let m : PageMap = g.S.Pages.map c.args.stage.now in
    let p = c.args.point.now in
    let tree = c.args.tree.now in
    let not_none = c.if-tree-eq0.false in
    stay_more (LeadsFrom b p m tree.count (BeforePage tree.root)) (Leads b m tree p) m (g.S.Pages.map c.root_add.new.stage) (c.in-Ok-root_add.ensures.apart tells)
    (λ q x. (omega (arith, not_none), x))

pub returns-in-Err-root_add-clause-damaged : goal.returns-in-Err-root_add-clause-damaged
returns-in-Err-root_add-clause-damaged g c = λ page e tells.
    let not_none = c.if-tree-eq0.false in
    let is : c.in-Err-root_add.fault ≡ Damaged page = cc in
    elim (c.root_add.ensures.damaged page (c.in-Err-root_add.is ∙ ap (λ (fault : StageFault). Err fault) is) tells) [
      | inl found ↦ inl (omega (arith, not_none), inr found)
      | inr unordered ↦ inr unordered
    ]

pub returns-in-Ok-clause-root : goal.returns-in-Ok-clause-root
returns-in-Ok-clause-root g c = λ tells some beside.
    let first : ℕ = c.in-Ok.first.root in
    let made = c.in-Ok.ensures.made tells in
    absurd (not_missing (g.S.Pages.map c.args.stage.now first) (made.1.fresh first refl (one_names first)) some)

pub returns-in-Ok-root_add-clause-root : goal.returns-in-Ok-root_add-clause-root
returns-in-Ok-root_add-clause-root g c = λ tells some beside.
    let not_none = c.if-tree-eq0.false in
    let is : c.tree_of.result.root ≡ c.in-Ok-root_add.root = ap (λ (tree : Tree). tree.root) c.tree_of.ensures in
    let m : PageMap = g.S.Pages.map c.args.stage.now in
    is ∙ c.in-Ok-root_add.ensures.named tells (subst (λ (page : ℕ). IsSome (m page)) is some)
    (λ x. beside (omega (arith, not_none), subst (λ (page : ℕ). LeadsFrom g.B.BorderTree c.args.point.now m c.args.tree.now.count (BeforePage c.args.tree.now.root) page) (sym is) x))
