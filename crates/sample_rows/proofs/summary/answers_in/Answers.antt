use Rattle.std.proofs.Common.{rules, arith, FitsSigned}
use Rattle.std.specs.Int.{w128}
use Rattle.sample_rows.proofs.Wrapped.{total_ends, total_more}
use Rattle.sample_rows.proofs.summary.answers_in.Goals as goal

pub loop-line-preserved : goal.loop-line-preserved
loop-line-preserved c =
    let fits : FitsSigned w128 c.answer-total.result = search rules in
    total_more _ _ _ _ c.answer-total.result c.loop-line.total-bits (omega arith) fits c.loop-line.invariant c.answer-total.ensures c.in-Some.ensures.0

pub returns : goal.returns
returns c =
    let fits : FitsSigned w128 c.answer.result = search rules in
    total_ends _ _ _ c.answer.result c.loop-line.total-bits (omega arith) fits c.loop-line.invariant c.answer.ensures c.in_default.ensures
