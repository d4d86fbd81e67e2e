use Rattle.std.proofs.Common.{◌≡◌, ◌%◌, ◌^◌, take}
use Rattle.std.specs.List.{sum_by}
use Rattle.dom_index.specs.Sums.{counted_weight}
use Rattle.dom_index.proofs.points.sum_on.Given as goal

abbrev pub invariant-loop-place : goal.invariant-loop-place
invariant-loop-place l = l.total ≡ sum_by (counted_weight l.dims l.keys l.version) (take l.place l.view.points.items) % 2 ^ 128
