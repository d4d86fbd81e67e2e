use Rattle.std.proofs.Common.{◌≡◌, ℕ, ◌++◌, ◌∙◌, refl, ap, arith}
use Rattle.sample_rows.specs.Generator.{queries}
use Rattle.sample_rows.proofs.Steps.{no_queries, queries_step, steps_step}
use Rattle.sample_rows.proofs.rows.put_queries.Goals as goal

pub loop-number-init : goal.loop-number-init
loop-number-init c = (no_queries c.args.last c.args.draws.now.x c.args.text.now.items, refl)

pub loop-number-preserved : goal.loop-number-preserved
loop-number-preserved c = (
  queries_step c.args.last c.args.draws.now.x c.loop-number.number c.loop-number.draws.x c.args.text.now.items c.loop-number.text.items c.put_query.new.text.items
      c.loop-number.invariant.0 c.loop-number.invariant.1 c.in_ok-put_query.ensures.row,
  steps_step c.args.draws.now.x c.loop-number.number c.loop-number.draws.x c.put_query.new.draws.x c.loop-number.invariant.1 c.put_query.ensures.steps,
)

pub returns : goal.returns
returns c =
    let all : c.loop-number.number ≡ 100 = omega (arith, c.loop-number-test.false, c.loop-number.auto.number-end) in
    c.loop-number.invariant.0 ∙ ap (λ (n : ℕ). c.args.text.now.items ++ queries c.args.last c.args.draws.now.x n) all
