use Rattle.std.proofs.Common.{◌≡◌, ◌≤◌, ◌*◌, ◌^◌, take, nat_abs}
use Rattle.bw_types.specs.Meets.{meets}
use Rattle.bw_types.specs.Tally.{int_sum_by}
use Rattle.warehouse.specs.Parts.{part_at, part_if}
use Rattle.warehouse.proofs.totals.weight_total.Given as goal

abbrev pub invariant-loop-life : goal.invariant-loop-life
invariant-loop-life l = record {
  is : l.total ≡ int_sum_by (part_at (part_if (meets l.dims l.query) (λ o. o.weight)) l.version) (take l.life-index l.lives);
  small : nat_abs l.total ≤ l.life-index * 2 ^ 63;
}
