use Rattle.std.proofs.Common.{length, ap, arith}
use Rattle.page_layout.specs.PointView.{length-points}
use Rattle.page_layout.specs.declared.point_leaf.PointLeaf.{PointLeaf}
use Rattle.page_layout.proofs.point_view.View+PointLeaf.len.Goals as goal

pub returns : goal.returns
returns c = omega (arith, c.min.ensures, c.from.ensures, c.read_count.ensures, length-points, ap (λ (n : PointLeaf). length n.points.items) c.self.view_is)
