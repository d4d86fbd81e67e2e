use Rattle.std.proofs.Common.{◌≡◌, ◌+◌, length, map, take}
use Rattle.grid_report.proofs.sums.line_counts.Given as goal

abbrev pub invariant-loop-i : goal.invariant-loop-i
invariant-loop-i l = record {
  size : length l.lines ≡ 3;
  so_far : take l.i l.lines ≡ map (λ n. n + 1) (take l.i l.grid.cells);
}
