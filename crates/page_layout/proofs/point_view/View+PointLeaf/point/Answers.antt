use Rattle.std.proofs.Common.{sym, ap}
use Rattle.page_layout.specs.Respelled.{row_place}
use Rattle.page_layout.specs.PointLeaf.{point_at}
use Rattle.page_layout.specs.declared.point_leaf.PointLeaf.{PointLeaf}
use Rattle.page_layout.proofs.point_view.View+PointLeaf.point.Goals as goal

pub returns : goal.returns
returns c = row_place point_at 44 _ _ _ (ap (λ (n : PointLeaf). n.points.items) (sym c.self.view_is)) c.args.place c.requires _ c.entry_in.ensures
