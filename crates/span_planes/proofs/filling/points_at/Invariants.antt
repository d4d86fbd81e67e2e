use Rattle.std.proofs.Common.{◌≡◌, ◌-◌, ◌^◌, ◌<◌, map, take}
use Rattle.std.specs.List.{All}
use Rattle.dom_index.specs.Points.{AreKeysBelow}
use Rattle.span_planes.specs.FillPoints.{point_in}
use Rattle.span_planes.specs.Filled.{entries_in}
use Rattle.span_planes.proofs.filling.points_at.Given as goal

abbrev pub invariant-loop-event : goal.invariant-loop-event
invariant-loop-event l = record {
  points : l.points.items ≡ map (point_in l.params l.place) (entries_in (take l.event-index l.events));
  keys : All (λ p. AreKeysBelow l.params.dims p.keys) l.points.items;
  versions : All (λ p. p.version < 2 ^ 32 - 1) l.points.items;
}
