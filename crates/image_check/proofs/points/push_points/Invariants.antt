use Rattle.std.proofs.Common.{◌≡◌, ◌++◌, map}
use Rattle.std.specs.List.{range_with_len}
use Rattle.corner_forest.specs.Enters.{entered_at}
use Rattle.corner_forest.specs.Entries.{entry_point}
use Rattle.image_check.proofs.points.push_points.Given as goal

abbrev pub invariant-loop-corner : goal.invariant-loop-corner
invariant-loop-corner l =
    l.points.items ≡ l.fn.points.items ++ map (entry_point l.params (entered_at l.version l.entry) l.place) (range_with_len 0 l.corner)
