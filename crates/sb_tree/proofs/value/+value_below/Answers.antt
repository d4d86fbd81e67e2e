use Rattle.sb_tree.proofs.Common.{ℕ, Err, rules, arith, refl, ap, err_from_is_err_and, LeadsTo}
use Rattle.ports.specs.declared.page.PageFault.TheVariants.{Damaged}
use Rattle.sb_tree.proofs.Exits.{exit_error}
use Rattle.sb_tree.proofs.Values.{leaf_value, index_value, damaged_here, damaged_further, leads_at_cut, some_at_cut, whole_further, whole_leaf}
use Rattle.sb_tree.proofs.value.+value_below.Given
use Rattle.sb_tree.proofs.value.+value_below.Goals.{After-child_on-child}
use Rattle.sb_tree.proofs.value.+value_below.Goals as goal

pub returns-in_err-node-clause-damaged : goal.returns-in_err-node-clause-damaged
returns-in_err-node-clause-damaged g t c = search (rules, err_from_is_err_and, exit_error, damaged_here)

pub returns-then-level-eq1-clause-value : goal.returns-then-level-eq1-clause-value
returns-then-level-eq1-clause-value g t c = search (rules, leaf_value)

pub returns-then-level-eq1-clause-whole : goal.returns-then-level-eq1-clause-whole
returns-then-level-eq1-clause-whole g t c = search (rules, whole_leaf)

pub inner_place_on-inner-requires : goal.inner_place_on-inner-requires
inner_place_on-inner-requires g t c = grind (arith, some_at_cut)

pub child_on-child-requires : goal.child_on-child-requires
child_on-child-requires g t c = (
  some_at_cut c.args.level c.args.place c.in_ok-node.node c.in_ok-node.node.entries.items c.begun_on-begun.result.count _ refl
      c.in_ok-node.ensures.node c.if-level-eq1.false c.begun_on-begun.ensures.cut,
  c.begun_on-begun.ensures.cut.bound,
)

-- The child is where the node leads to.
leads : (g : Given.Over) (t : ℕ) (c : After-child_on-child g t) → LeadsTo c.args.place c.in_ok-node.node c.child_on-child.result c.inner_place_on-inner.result
leads g t c =
    leads_at_cut c.args.place c.inner_place_on-inner.result c.in_ok-node.node c.in_ok-node.node.entries.items c.begun_on-begun.result.count c.child_on-child.result refl c.begun_on-begun.ensures.cut
    (c.child_on-child.ensures _ c.begun_on-begun.ensures.cut) c.inner_place_on-inner.ensures.low c.inner_place_on-inner.ensures.high c.inner_place_on-inner.ensures.sought

pub returns-in_err-below-clause-damaged : goal.returns-in_err-below-clause-damaged
returns-in_err-below-clause-damaged g t c = λ damaged e tells.
    let p = err_from_is_err_and c.from_residual-in_err-below.result c.from_residual-in_err-below.ensures.1 in
    let same = exit_error c.from_residual-in_err-below.result c.in_err-below.field-0.0 (Damaged damaged) p e in
    let why = c.in_err-below.ensures.damaged damaged (ap Err same) (search rules) in
    damaged_further _ _ _ _ _ _ c.in_ok-node.node damaged (omega (arith, c.if-level-eq0.false)) (c.in_ok-node.ensures.found tells) c.in_ok-node.ensures.node
    (leads g t (goal.at.returns-in_err-below-clause-damaged g t c).After-child_on-child) (rw c.view_in_place.ensures.reads.read.map at why)

pub returns-clause-value : goal.returns-clause-value
returns-clause-value g t c = search (rules, index_value)

pub returns-clause-whole : goal.returns-clause-whole
returns-clause-whole g t c = λ tells.
    whole_further (g.P.Pages.map c.args.pages.now) c.args.level c.args.page c.args.place c.in_ok-node.node (c.in_ok-node.ensures.found tells) c.in_ok-node.ensures.node
    c.child_on-child.result c.inner_place_on-inner.result (leads g t (goal.at.returns-clause-whole g t c).After-child_on-child) (rw c.view_in_place.ensures.reads.read.map at (c.in_ok-below.ensures.whole (search rules)))
