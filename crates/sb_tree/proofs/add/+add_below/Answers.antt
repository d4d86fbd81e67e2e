use Rattle.sb_tree.proofs.Common.{ℕ, inl, inr, Err, rules, arith, ap, refl, err_from_is_err_and, IfOk-weaker}
use Rattle.ports.specs.declared.page.StageFault.TheVariants.{Damaged}
use Rattle.sb_tree.proofs.Exits.{exit_error}
use Rattle.sb_tree.proofs.Values.{damaged_further}
use Rattle.sb_tree.proofs.Values.{some_at_cut}
use Rattle.sb_tree.proofs.Nodes.{entries_on-spelled}
use Rattle.sb_tree.proofs.Outside.{index_others, stored_others}
use Rattle.sb_tree.proofs.Adding.{AtLeaf, AtChild, at_child, child_seeks, leaf_fits, leaf_storable, second_fits, leaf_full, leaf_result, index_fits, index_storable, index_full, index_result}
use Rattle.sb_tree.proofs.add.+add_below.Given
use Rattle.sb_tree.proofs.add.+add_below.Goals.{After-take_in, After-child_before-child}
use Rattle.sb_tree.proofs.add.+add_below.Goals as goal

-- A leaf takes in the addition.
at_leaf : (g : Given.Over) (t : ℕ) (c : After-take_in g t) → AtLeaf c.args.level c.args.place c.in_ok-node.node c.take_in.new.entries.items c.args.value
at_leaf g t c = record { fits = c.in_ok-node.ensures.node; leaf = c.if-level-eq1.true; takes = c.take_in.ensures; seeks = c.requires.place; small = omega (arith, c.ranges.value.fits) }

pub store-requires-clause-rules : goal.store-requires-clause-rules
store-requires-clause-rules g t c = leaf_storable (at_leaf g t (goal.at.store-requires-clause-rules g t c).After-take_in) refl

pub returns-then-level-eq1-clause-raised : goal.returns-then-level-eq1-clause-raised
returns-then-level-eq1-clause-raised g t c =
    IfOk-weaker c.store.result _ _ (λ second stored tells least stands once.
    leaf_result (at_leaf g t (goal.at.returns-then-level-eq1-clause-raised g t c).After-take_in) c.read_in_place.ensures.reads.read.map (c.in_ok-node.ensures.found tells) stands once (stored (search rules))) c.store.ensures.stored

pub returns-then-level-eq1-clause-second : goal.returns-then-level-eq1-clause-second
returns-then-level-eq1-clause-second g t c = IfOk-weaker c.store.result _ _ (λ second is_second. second_fits second (leaf_fits (at_leaf g t (goal.at.returns-then-level-eq1-clause-second g t c).After-take_in)) is_second) c.store.ensures.second

pub returns-then-level-eq1-clause-full : goal.returns-then-level-eq1-clause-full
returns-then-level-eq1-clause-full g t c =
    IfOk-weaker c.store.result _ _ (λ second is_second tells. leaf_full _ _ second (at_leaf g t (goal.at.returns-then-level-eq1-clause-full g t c).After-take_in) (c.in_ok-node.ensures.found tells) is_second) c.store.ensures.second

pub inner_place-inner-requires : goal.inner_place-inner-requires
inner_place-inner-requires g t c = grind (arith, some_at_cut)

pub child_before-child-requires : goal.child_before-child-requires
child_before-child-requires g t c = (search (rules, some_at_cut, c.as_slice-entries.ensures, c.begun_count-begun.ensures, c.in_ok-node.ensures.node), c.begun_count-begun.ensures.bound)

-- The child is where the node leads to.
below : (g : Given.Over) (t : ℕ) (c : After-child_before-child g t) → AtChild c.args.level c.args.place c.inner_place-inner.result c.in_ok-node.node c.begun_count-begun.result c.child_before-child.result
below g t c = at_child c.in_ok-node.ensures.node c.if-level-eq1.false c.requires.place c.as_slice-entries.ensures.value c.begun_count-begun.ensures (c.child_before-child.ensures _ c.begun_count-begun.ensures)
    c.inner_place-inner.ensures.low c.inner_place-inner.ensures.high c.inner_place-inner.ensures.sought

pub add_below-requires : goal.add_below-requires
add_below-requires g t c κs within =
    (omega (arith, c.decreases, c.requires.level), (within, (omega (arith, c.requires.level, c.if-level-eq1.false), child_seeks (below g t (goal.at.add_below-requires g t c).After-child_before-child))))

pub returns-in_err-second-clause-damaged : goal.returns-in_err-second-clause-damaged
returns-in_err-second-clause-damaged g t c = λ damaged e tells.
    let p = err_from_is_err_and c.from_residual-in_err-second.result c.from_residual-in_err-second.ensures.1 in
    let same = exit_error c.from_residual-in_err-second.result c.in_err-second.field-0.0 (Damaged damaged) p e in
    elim (c.in_err-second.ensures.damaged damaged (ap Err same) (search rules)) [
      | inl why ↦ inl (damaged_further _ _ _ _ _ _ c.in_ok-node.node damaged c.requires.level (c.in_ok-node.ensures.found tells) c.in_ok-node.ensures.node (below g t (goal.at.returns-in_err-second-clause-damaged g t c).After-child_before-child).leads (rw c.read_in_place.ensures.reads.read.map at why))
      | inr unordered ↦ inr (λ ordered. unordered (c.read_in_place.ensures.reads.read.free_in_order ordered))
    ]

pub store-requires-2-clause-rules : goal.store-requires-2-clause-rules
store-requires-2-clause-rules g t c = index_storable c.args.value c.in_ok-second.second (below g t (goal.at.store-requires-2-clause-rules g t c).After-child_before-child) c.in_ok-second.ensures.second refl c.add_beside.ensures

pub returns-clause-raised : goal.returns-clause-raised
returns-clause-raised g t c =
    IfOk-weaker c.store-2.result _ _ (λ second stored tells least stands once.
    index_result c.args.value c.in_ok-second.second second (below g t (goal.at.returns-clause-raised g t c).After-child_before-child) c.read_in_place.ensures.reads.read.map (c.in_ok-node.ensures.found tells) c.in_ok-second.ensures.second c.add_beside.ensures
    (c.in_ok-second.ensures.raised (search rules) 32) stands once (stored (search rules))) c.store-2.ensures.stored

pub returns-clause-second : goal.returns-clause-second
returns-clause-second g t c =
    let fits = index_fits c.args.value c.in_ok-second.second (below g t (goal.at.returns-clause-second g t c).After-child_before-child) c.in_ok-second.ensures.second c.add_beside.ensures in
    IfOk-weaker c.store-2.result _ _ (λ second is_second. second_fits second fits is_second) c.store-2.ensures.second

pub returns-clause-full : goal.returns-clause-full
returns-clause-full g t c =
    IfOk-weaker c.store-2.result _ _
    (λ second is_second tells. index_full _ _ c.args.value c.in_ok-second.second second (below g t (goal.at.returns-clause-full g t c).After-child_before-child) (c.in_ok-node.ensures.found tells) c.add_beside.ensures is_second
    (rw c.read_in_place.ensures.reads.read.map at (c.in_ok-second.ensures.full (search rules)))) c.store-2.ensures.second

pub returns-clause-apart : goal.returns-clause-apart
returns-clause-apart g t c =
    let w = below g t (goal.at.returns-clause-apart g t c).After-child_before-child in
    IfOk-weaker c.store-2.result _ _ (λ second stored tells.
    index_others c.args.level c.args.page c.child_before-child.result c.begun_count-begun.result c.args.place.sought _ _ _ _ c.in_ok-node.node.entries.items (omega (arith, c.requires.level, c.if-level-eq1.false))
    (entries_on-spelled (g.S.Pages.map c.args.stage.now) c.args.page c.in_ok-node.node c.in_ok-node.ensures.node.fits.typed c.in_ok-node.ensures.node.fits.rules (c.in_ok-node.ensures.found tells)) w.cut w.some w.leads.child_is
    c.read_in_place.ensures.reads.read.map (c.in_ok-second.ensures.apart (search rules)) (stored_others _ c.args.page _ _ _ second (stored (search rules)))) c.store-2.ensures.stored
