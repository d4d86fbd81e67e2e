use Rattle.std.proofs.Common.{◌≡◌, ℕ, ◌+◌, ◌-◌, ◌%◌, ◌^◌, ◌≤◌, Err, rules, ap, sym, subst, arith}
use Rattle.std.proofs.lemmas.Result.{err_from_is_err_and}
use Rattle.ports.specs.declared.page.PageFault.TheVariants.{Damaged}
use Rattle.dom_index.proofs.Chains.{sum_step}
use Rattle.dom_index.proofs.Exits.{exit_error}
use Rattle.dom_index.proofs.Walking.{damaged_at, damaged_next, damaged_past, found_on, sum_end}
use Rattle.bw_types.specs.Dominance.{dominance_sum, dominated_weight}
use Rattle.dom_index.specs.Chain.{chain_points}
use Rattle.dom_index.proofs.chain.sum_along.Goals as goal

pub returns-in_err-leaf-clause-damaged : goal.returns-in_err-leaf-clause-damaged
returns-in_err-leaf-clause-damaged g c = λ damaged e tells.
    let p = err_from_is_err_and c.from_residual.result c.from_residual.ensures.1 in
    let same = exit_error c.from_residual.result c.in_err-leaf.field-0.0 (Damaged damaged) p e in
    let why = c.in_err-leaf.ensures.damaged damaged (ap Err same) in
    c.loop-page.invariant.way damaged tells c.loop-page-test.true
    (damaged_at (g.P.Pages.map c.args.pages.now) (g.P.Pages.map c.loop-page.pages) c.loop-page.left c.loop-page.page damaged c.loop-page.invariant.went.map (omega (arith, c.if-left-eq0.false)) why.0 (why.1 (search rules)))

pub loop-page-preserved : goal.loop-page-preserved
loop-page-preserved g c =
    let map = g.P.Pages.map c.args.pages.now in
    let some : 1 ≤ c.loop-page.left = omega (arith, c.if-left-eq0.false) in
    record {
      some = omega (arith, c.loop-page.invariant.some);
      total = λ tells.
          subst (λ (next : ℕ). ((c.loop-page.total + c.sum_on-total.result) % 2 ^ 128 + dominated_weight c.args.dims (chain_points (c.loop-page.left - 1) map next) c.args.keys.now c.args.version) % 2 ^ 128
          ≡ dominance_sum c.args.dims (chain_points c.args.tree.now.count map c.args.tree.now.root) c.args.keys.now c.args.version) (sym c.next-page.ensures)
          (sum_step c.args.dims c.args.keys.now c.args.version c.loop-page.total c.sum_on-total.result c.loop-page.left map c.loop-page.page c.in_ok-leaf.leaf
          (dominance_sum c.args.dims (chain_points c.args.tree.now.count map c.args.tree.now.root) c.args.keys.now c.args.version)
          some c.loop-page-test.true (found_on (g.P.Pages.map c.loop-page.pages) map c.loop-page.page _ c.loop-page.invariant.went.map (c.in_ok-leaf.ensures.found (search rules)))
          c.in_ok-leaf.ensures.spells.typed c.in_ok-leaf.ensures.spells.rules c.sum_on-total.ensures (c.loop-page.invariant.total tells));
      way = λ damaged tells ne below.
          c.loop-page.invariant.way damaged tells c.loop-page-test.true
          (damaged_next map (g.P.Pages.map c.loop-page.pages) c.loop-page.left c.loop-page.page c.next-page.result damaged c.in_ok-leaf.leaf c.loop-page.invariant.went.map some
          (c.in_ok-leaf.ensures.found (search rules)) c.in_ok-leaf.ensures.spells c.next-page.ensures ne below);
      ahead = λ damaged tells d.
          damaged_past map (g.P.Pages.map c.loop-page.pages) c.loop-page.left c.loop-page.page c.next-page.result damaged c.in_ok-leaf.leaf
          c.loop-page.invariant.went.map (c.in_ok-leaf.ensures.found (search rules)) c.in_ok-leaf.ensures.spells
          (c.in_ok-leaf.ensures.only (search rules)) c.next-page.ensures (c.loop-page.invariant.ahead damaged tells d).1;
      fits = omega arith;
      went = search rules;
    }

pub returns-clause-sum : goal.returns-clause-sum
returns-clause-sum g c = λ tells.
    sum_end c.args.dims c.args.keys.now c.args.version c.loop-page.total c.loop-page.left (g.P.Pages.map c.args.pages.now) c.loop-page.page
    (dominance_sum c.args.dims (chain_points c.args.tree.now.count (g.P.Pages.map c.args.pages.now) c.args.tree.now.root) c.args.keys.now c.args.version)
    (omega (arith, c.loop-page-test.false)) c.loop-page.invariant.fits (c.loop-page.invariant.total tells)

pub returns-clause-whole : goal.returns-clause-whole
returns-clause-whole g c = λ tells damaged d. (c.loop-page.invariant.ahead damaged tells d).0 (omega (arith, c.loop-page-test.false))
