use Rattle.std.proofs.Common.{◌≡◌, ◌-◌, ◌^◌, ◌<◌, ◌++◌, drop}
use Rattle.std.specs.List.{All}
use Rattle.dom_index.specs.Points.{AreKeysBelow}
use Rattle.corner_forest.specs.Enters.{all_entered_at}
use Rattle.corner_forest.specs.Entries.{batch_points}
use Rattle.corner_forest.proofs.batch.points_of.Given as goal

-- the points so far and those to come are all of them
abbrev pub invariant-loop-i : goal.invariant-loop-i
invariant-loop-i l = record {
  points : l.points.items ++ batch_points l.params l.place (all_entered_at l.version (drop l.i l.batch)) ≡ batch_points l.params l.place (all_entered_at l.version l.batch);
  keys : All (λ p. AreKeysBelow l.params.dims p.keys) l.points.items;
  versions : All (λ p. p.version < 2 ^ 32 - 1) l.points.items;
}
