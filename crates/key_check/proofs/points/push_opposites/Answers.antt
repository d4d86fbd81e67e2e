use Rattle.std.proofs.Common.{◌<◌, ◌^◌}
use Rattle.std.proofs.lemmas.List.Elements.{All-more}
use Rattle.bw_types.specs.declared.point.Point.{Point}
use Rattle.key_check.proofs.Opposites.{pushed_more}
use Rattle.key_check.proofs.points.push_opposites.Goals as goal

pub loop-point-preserved : goal.loop-point-preserved
loop-point-preserved c = record {
  items = pushed_more c.args.keyed c.args.corners.now.items c.loop-point.corners.items c.push.new.self.items c.args.points.now c.loop-point.point-index _ c.opposite_of.result c.loop-point-test.true c.loop-point.invariant.items (c.in_ok-push.ensures.items) c.opposite_of.ensures.value;
  typed = All-more (λ (p : Point). p.weight < 2 ^ 128) c.args.points.now c.loop-point.point-index _ c.loop-point-test.true c.loop-point.invariant.typed c.opposite_of.ensures.typed;
}
