use Rattle.std.proofs.Common.{◌≡◌, take}
use Rattle.history_laws.specs.Entries.{entries_of}
use Rattle.corner_forest.specs.Entries.{root_points}
use Rattle.image_check.proofs.points.points_of.Given as goal

abbrev pub invariant-loop-life : goal.invariant-loop-life
invariant-loop-life l = l.points.items ≡ root_points l.params (entries_of (take l.life-index l.lives)) l.place
