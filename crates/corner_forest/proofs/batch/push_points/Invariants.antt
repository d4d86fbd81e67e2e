use Rattle.std.proofs.Common.{◌≡◌, ◌-◌, ◌^◌, ◌<◌, ◌++◌}
use Rattle.std.specs.List.{All}
use Rattle.dom_index.specs.Points.{AreKeysBelow}
use Rattle.corner_forest.specs.Enters.{entered_at}
use Rattle.corner_forest.specs.Entries.{added_points, points_below}
use Rattle.corner_forest.proofs.batch.push_points.Given as goal

-- the points so far and those to come are all of them
abbrev pub invariant-loop-i : goal.invariant-loop-i
invariant-loop-i l = record {
  points : l.points.items ++ points_below l.params (entered_at l.version l.entry) l.place (l.count - l.i) ≡ l.fn.points.items ++ added_points l.params l.place (entered_at l.version l.entry);
  keys : All (λ p. AreKeysBelow l.params.dims p.keys) l.points.items;
  versions : All (λ p. p.version < 2 ^ 32 - 1) l.points.items;
}
