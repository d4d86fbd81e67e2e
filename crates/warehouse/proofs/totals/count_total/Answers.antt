use Rattle.std.proofs.Common.{◌∙◌, arith, refl, sym, pos}
use Rattle.std.proofs.lemmas.Int.{to_z_pos}
use Rattle.std.specs.Int.{w128}
use Rattle.bw_types.specs.Meets.{meets}
use Rattle.warehouse.specs.Kept.{objects_at}
use Rattle.warehouse.specs.Parts.{part_at, part_if}
use Rattle.warehouse.proofs.Sums.{total_step, total_end, length-filter, int_sum_by-objects_at}
use Rattle.warehouse.proofs.totals.count_total.Goals as goal

pub loop-life-preserved : goal.loop-life-preserved
loop-life-preserved c = record {
  is = total_step (part_at (part_if (meets c.args.dims c.args.query.now) (λ o. pos 1)) c.args.version) c.args.lives.now c.loop-life.life-index _ (pos c.loop-life.total) (pos c.count_part-total.result) _ (omega arith) c.loop-life.invariant.is c.count_part-total.ensures.is refl;
  small = omega arith;
}

pub returns : goal.returns
returns c =
    to_z_pos w128 c.loop-life.total (omega arith)
    ∙ c.loop-life.invariant.is
    ∙ total_end _ c.args.lives.now c.loop-life.life-index (omega arith)
    ∙ sym (int_sum_by-objects_at (part_if (meets c.args.dims c.args.query.now) (λ o. pos 1)) c.args.version c.args.lives.now)
    ∙ sym (length-filter (meets c.args.dims c.args.query.now) (objects_at c.args.version c.args.lives.now))
