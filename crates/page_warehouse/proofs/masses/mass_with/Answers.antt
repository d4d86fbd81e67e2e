use Rattle.std.proofs.Common.{arith}
use Rattle.page_warehouse.proofs.Rows.{blank_row, mass-at}
use Rattle.page_warehouse.proofs.masses.mass_with.Goals as goal

pub row_mass-total-requires-clause-limit : goal.row_mass-total-requires-clause-limit
row_mass-total-requires-clause-limit c =
    let parts = mass-at c.args.params.now c.args.rows.now c.loop-row.row-index blank_row (omega (arith, c.loop-row-test.true)) in
    omega (arith, parts, c.requires.limit)

pub overflow_add-total : goal.overflow_add-total
overflow_add-total c =
    let parts = mass-at c.args.params.now c.args.rows.now c.loop-row.row-index blank_row (omega (arith, c.loop-row-test.true)) in
    omega (arith, parts, c.requires.limit, c.loop-row.invariant.total, c.row_mass-total.ensures.mass)
