use Rattle.std.proofs.Common.{◌-◌, ◌^◌, ◌<◌, List, sym, subst}
use Rattle.std.specs.List.{All}
use Rattle.std.proofs.lemmas.List.Elements.{All-push}
use Rattle.bw_types.specs.declared.point.Point.{Point}
use Rattle.dom_index.specs.Points.{AreKeysBelow}
use Rattle.span_planes.proofs.FillTurns.{point_next}
use Rattle.span_planes.proofs.filling.points_at.Goals as goal

pub loop-event-preserved : goal.loop-event-preserved
loop-event-preserved c =
    let dims = c.args.params.now.dims in
    let is = c.in_ok-push_point.ensures.last in
    let items : List Point = c.loop-event.points.items in
    record {
      points = point_next c.args.params.now c.args.place c.args.events.now c.loop-event.event-index items c.push_point.new.points.items c.point_of.result c.loop-event-test.true
          c.loop-event.invariant.points c.point_of.ensures.point is;
      keys = subst (λ (l : List Point). All (λ (p : Point). AreKeysBelow dims p.keys) l) (sym is)
          (All-push (λ (p : Point). AreKeysBelow dims p.keys) items c.point_of.result c.loop-event.invariant.keys c.point_of.ensures.below);
      versions = subst (λ (l : List Point). All (λ (p : Point). p.version < 2 ^ 32 - 1) l) (sym is)
          (All-push (λ (p : Point). p.version < 2 ^ 32 - 1) items c.point_of.result c.loop-event.invariant.versions c.point_of.ensures.version);
    }
