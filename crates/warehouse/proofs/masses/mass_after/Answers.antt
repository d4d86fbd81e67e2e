use Rattle.std.proofs.Common.{◌+◌, ◌<◌, arith}
use Rattle.bw_types.specs.Mass.{mass_limit}
use Rattle.warehouse.proofs.Rows.{row_mass_below, mass_so_far_below}
use Rattle.warehouse.proofs.masses.mass_after.Goals as goal

pub mass_of-total-requires-clause-limit : goal.mass_of-total-requires-clause-limit
mass_of-total-requires-clause-limit c = row_mass_below c.args.params.now c.args.rows.now c.loop-row.row-index c.args.mass mass_limit _ (omega arith) c.requires.limit

pub overflow_add-total : goal.overflow_add-total
overflow_add-total c =
    let below : c.loop-row.total + c.mass_of-total.result < mass_limit =
    mass_so_far_below c.args.params.now c.args.rows.now c.loop-row.row-index c.args.mass _ _ mass_limit _ (omega arith) c.requires.limit c.loop-row.invariant c.mass_of-total.ensures in
    omega arith
