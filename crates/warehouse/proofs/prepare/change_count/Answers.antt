use Rattle.std.proofs.Common.{◌+◌, ◌^◌, ◌<◌, arith}
use Rattle.warehouse.proofs.Rows.{count_so_far_below}
use Rattle.warehouse.proofs.prepare.change_count.Goals as goal

pub overflow_add-count : goal.overflow_add-count
overflow_add-count c =
    let below : c.loop-row.count + c.changes_in-count.result < 2 ^ 32 =
    count_so_far_below c.args.rows.now c.loop-row.row-index _ _ (2 ^ 32) _ (omega arith) c.requires c.loop-row.invariant c.changes_in-count.ensures in
    omega arith
