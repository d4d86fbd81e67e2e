use Rattle.std.proofs.Common.{◌≡◌, ◌≤◌, take, pos}
use Rattle.bw_types.specs.Meets.{meets}
use Rattle.bw_types.specs.Tally.{int_sum_by}
use Rattle.warehouse.specs.Parts.{part_at, part_if}
use Rattle.warehouse.proofs.totals.count_total.Given as goal

abbrev pub invariant-loop-life : goal.invariant-loop-life
invariant-loop-life l = record {
  is : pos l.total ≡ int_sum_by (part_at (part_if (meets l.dims l.query) (λ o. pos 1)) l.version) (take l.life-index l.lives);
  small : l.total ≤ l.life-index;
}
