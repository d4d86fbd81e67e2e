use Rattle.std.proofs.Common.{◌≡◌, take}
use Rattle.std.specs.Int.{int_wrap, w128}
use Rattle.bw_types.specs.Integral.{integral_over}
use Rattle.bw_types.specs.Tally.{int_sum_by}
use Rattle.warehouse.specs.Parts.{part_at}
use Rattle.warehouse.proofs.totals.integral_total.Given as goal

abbrev pub invariant-loop-life : goal.invariant-loop-life
invariant-loop-life l = l.total ≡ int_wrap w128 (int_sum_by (part_at (integral_over l.params l.query) l.version) (take l.life-index l.lives))
