-- The dominance sum of points, taken one after another.
use Rattle.std.specs.Prelude.{ℕ, if◌then◌else◌, List}
use Rattle.bw_types.specs.Dominance.{is_dominated}
use Rattle.bw_types.specs.declared.point.Point.{Point}

-- what one point adds to the sum
abbrev pub counted_weight : ℕ → List ℕ → ℕ → Point → ℕ
counted_weight dims keys version p = if is_dominated dims keys version p then p.weight else 0
