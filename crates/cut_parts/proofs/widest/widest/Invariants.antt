use Rattle.std.proofs.Common.{◌≡◌, ℕ, ◌<◌, ◌≤◌}
use Rattle.cut_parts.specs.Widest.{spread}
use Rattle.cut_parts.proofs.widest.widest.Given as goal

abbrev pub invariant-loop-dimension : goal.invariant-loop-dimension
invariant-loop-dimension l = record {
  before : l.widest < l.dimension;
  below : l.widest < l.dims;
  most : l.most ≡ spread l.widest l.points;
  widest : (other : ℕ) → other < l.dimension → spread other l.points ≤ l.most;
  first : (other : ℕ) → other < l.widest → spread other l.points < l.most;
}
