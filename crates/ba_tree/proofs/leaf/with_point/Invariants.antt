use Rattle.std.proofs.Common.{◌≡◌, ◌∷◌, take}
use Rattle.ba_tree.proofs.leaf.with_point.Given as goal

abbrev pub invariant-loop-other : goal.invariant-loop-other
invariant-loop-other l = l.all.items ≡ l.point ∷ take l.other-index l.points
