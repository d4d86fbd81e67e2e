use Rattle.std.proofs.Common.{◌≡◌, take, All}
use Rattle.page_layout.specs.PointLeaf.{IsPointTyped}
use Rattle.cut_parts.proofs.putting.leaf_of.Given as goal

abbrev pub invariant-loop-point : goal.invariant-loop-point
invariant-loop-point l = record {
  items : l.copy.items ≡ take l.point-index l.points;
  typed : All IsPointTyped l.copy.items;
}
