use Rattle.std.proofs.Common.{◌≡◌, ◌+◌, ◌-◌, ◌<◌, ℕ, IsSome, Err, rules, arith, sym, subst, refl, ap, ◌∙◌}
use Rattle.std.proofs.lemmas.Result.{err_from_is_err_and}
use Rattle.ports.specs.Pages.{PageMap}
use Rattle.page_layout.specs.MvNode.{mv_node_page}
use Rattle.page_layout.specs.declared.mv_node.MvNode.{MvNode}
use Rattle.mvsb_tree.specs.Damage.{IsDamagedInChain}
use Rattle.mvsb_tree.specs.Steps.{chain_from, node_on}
use Rattle.mvsb_tree.proofs.Chains.{back_more, chain_all, chain_undamaged, damaged_back, damaged_misplaced, damaged_missing, damaged_only_back, free_step, left_there}
use Rattle.mvsb_tree.proofs.Exits.{err_same_staged, read_damaged}
use Rattle.mvsb_tree.proofs.Nodes.{node_on-spelled}
use Rattle.mvsb_tree.proofs.free.free_chain.Goals as goal

pub returns-in_err-node-clause-damaged : goal.returns-in_err-node-clause-damaged
returns-in_err-node-clause-damaged g c = λ p e tells.
    let told = err_from_is_err_and c.from_residual.result c.from_residual.ensures.1 in
    let same = read_damaged c.from_residual.result c.in_err-node.field-0.0 p told e in
    let why = c.in_err-node.ensures.damaged p (ap Err same) in
    let none = why.1 (search rules) in
    c.loop-passed.invariant.damage tells p (damaged_missing (g.S.Pages.map c.args.stage.now) (g.S.Pages.map c.loop-passed.stage) c.args.places c.loop-passed.passed c.args.last c.loop-passed.page p
    (omega (arith, c.loop-passed-test.true)) (c.loop-passed.invariant.freed tells) (c.loop-passed.invariant.above tells) why.0 none)

pub returns-in_err-node-clause-sound : goal.returns-in_err-node-clause-sound
returns-in_err-node-clause-sound g c = λ p tells s e.
    chain_undamaged c.args.places (g.S.Pages.map c.args.stage.now) c.args.last p s (returns-in_err-node-clause-damaged g c p e tells)

misplaced : goal.returns-then-node-places-clause-damaged
misplaced g c = λ p e tells.
    let spells = c.in_ok-node.ensures.spells in
    c.loop-passed.invariant.damage tells p (damaged_misplaced (g.S.Pages.map c.args.stage.now) (g.S.Pages.map c.loop-passed.stage) c.args.places c.loop-passed.passed c.args.last c.loop-passed.page p c.in_ok-node.node
    (omega (arith, c.loop-passed-test.true)) (c.loop-passed.invariant.freed tells) (sym (err_same_staged c.loop-passed.page p e)) (c.in_ok-node.ensures.found (search rules)) spells.rules spells.typed c.if-node-places.true)

pub returns-then-node-places-clause-damaged : goal.returns-then-node-places-clause-damaged
returns-then-node-places-clause-damaged g c = misplaced g c

pub returns-then-node-places-clause-sound : goal.returns-then-node-places-clause-sound
returns-then-node-places-clause-sound g c = λ p tells s e.
    chain_undamaged c.args.places (g.S.Pages.map c.args.stage.now) c.args.last p s (misplaced g c p e tells)

pub loop-passed-preserved : goal.loop-passed-preserved
loop-passed-preserved g c =
    let m0 : PageMap = g.S.Pages.map c.args.stage.now in
    let mi : PageMap = g.S.Pages.map c.loop-passed.stage in
    let i = c.loop-passed.passed in
    let last = c.args.last in
    let page = c.loop-passed.page in
    let node = c.in_ok-node.node in
    let spells = c.in_ok-node.ensures.spells in
    record {
      page_is = λ tells.
          let there = left_there (chain_from i m0 last) m0 mi page (mv_node_page node) (c.loop-passed.invariant.freed tells) (c.in_ok-node.ensures.found (search rules)) in
          let is_node = node_on-spelled m0 page node spells.typed spells.rules there.1 in
          ap (λ (n : MvNode). n.before) (sym is_node) ∙ ap (λ (p : ℕ). (node_on m0 p).before) (c.loop-passed.invariant.page_is tells) ∙ sym (back_more i m0 last);
      there = λ tells.
          let there = left_there (chain_from i m0 last) m0 mi page (mv_node_page node) (c.loop-passed.invariant.freed tells) (c.in_ok-node.ensures.found (search rules)) in
          chain_all (λ p. IsSome (m0 p)) i last page m0 (c.loop-passed.invariant.there tells) (c.loop-passed.invariant.page_is tells) (subst IsSome (sym there.1) refl);
      freed = λ tells.
          free_step i last page m0 mi (g.S.Pages.map c.free.new.self) (c.loop-passed.invariant.freed tells) (c.loop-passed.invariant.page_is tells) (search rules);
      above = λ tells.
          let there = left_there (chain_from i m0 last) m0 mi page (mv_node_page node) (c.loop-passed.invariant.freed tells) (c.in_ok-node.ensures.found (search rules)) in
          let is_node = ap (λ (n : MvNode). n.place) (node_on-spelled m0 page node spells.typed spells.rules there.1) in
          chain_all (λ q. c.args.places - (i + 1) < (node_on m0 q).place) i last page m0
          (λ q named. let more = c.loop-passed.invariant.above tells q named in omega (arith, more)) (c.loop-passed.invariant.page_is tells)
          (omega (arith, is_node, c.if-node-places.false, c.loop-passed-test.true));
      damage = λ tells p d.
          let there = left_there (chain_from i m0 last) m0 mi page (mv_node_page node) (c.loop-passed.invariant.freed tells) (c.in_ok-node.ensures.found (search rules)) in
          c.loop-passed.invariant.damage tells p (damaged_back m0 (c.args.places - i) (c.args.places - (i + 1)) page p node
          (omega (arith, c.loop-passed-test.true)) (omega (arith, c.loop-passed-test.true)) there.1 spells.rules spells.typed c.if-node-places.false d);
      whole = λ tells p d.
          let there = left_there (chain_from i m0 last) m0 mi page (mv_node_page node) (c.loop-passed.invariant.freed tells) (c.in_ok-node.ensures.found (search rules)) in
          damaged_only_back m0 (c.args.places - i) (c.args.places - (i + 1)) page p node
          (omega (arith, c.loop-passed-test.true)) there.1 spells.rules spells.typed c.if-node-places.false (c.loop-passed.invariant.whole tells p d);
      went_on = search rules;
    }

pub returns-clause-whole : goal.returns-clause-whole
returns-clause-whole g c = λ tells p d.
    let none : c.args.places - c.loop-passed.passed ≡ 0 = omega (arith, c.loop-passed-test.false) in
    subst (λ (l : ℕ). IsDamagedInChain (g.S.Pages.map c.args.stage.now) l c.loop-passed.page p) none (c.loop-passed.invariant.whole tells p d)
