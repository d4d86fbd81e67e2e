use Rattle.std.proofs.Common.{rules, ◌∙◌, ap, arith, sym, take, FitsSigned}
use Rattle.std.specs.Int.{int_wrap, w128}
use Rattle.bw_types.specs.Integral.{integral_over}
use Rattle.bw_types.specs.Tally.{int_sum_by}
use Rattle.warehouse.specs.Parts.{part_at}
use Rattle.warehouse.proofs.Sums.{int_sum_by_more, total_end, int_sum_by-objects_at}
use Rattle.warehouse.proofs.Wrapped.{sum_step}
use Rattle.warehouse.proofs.totals.integral_total.Goals as goal

pub loop-life-preserved : goal.loop-life-preserved
loop-life-preserved c =
    let f : FitsSigned w128 c.integral_part-total.result = search rules in
    sum_step (int_sum_by (part_at (integral_over c.args.params.now c.args.query.now) c.args.version) (take c.loop-life.life-index c.args.lives.now)) _ _
    c.loop-life.total-bits c.integral_part-total.result (omega arith) f c.loop-life.invariant c.integral_part-total.ensures
    (int_sum_by_more (part_at (integral_over c.args.params.now c.args.query.now) c.args.version) c.args.lives.now c.loop-life.life-index _ (omega arith))

pub returns : goal.returns
returns c =
    c.loop-life.invariant
    ∙ ap (int_wrap w128) (total_end _ c.args.lives.now c.loop-life.life-index (omega arith)
    ∙ sym (int_sum_by-objects_at (integral_over c.args.params.now c.args.query.now) c.args.version c.args.lives.now))
