use Rattle.std.proofs.Common.{◌-◌, ◌^◌, ◌<◌, ◌≤◌, List, sym, subst, arith}
use Rattle.std.specs.List.{All}
use Rattle.std.proofs.lemmas.List.Elements.{All-push}
use Rattle.bw_types.specs.declared.point.Point.{Point}
use Rattle.dom_index.specs.Points.{AreKeysBelow}
use Rattle.corner_forest.specs.Enters.{entered_at}
use Rattle.corner_forest.specs.Entries.{point_count}
use Rattle.corner_forest.proofs.Gathering.{point_put, points_end, points_start}
use Rattle.corner_forest.proofs.batch.push_points.Goals as goal

pub loop-i-init : goal.loop-i-init
loop-i-init c = record {
  points = points_start c.args.params.now (entered_at c.args.version c.args.entry.now) c.args.place c.point_count-count.result (point_count c.args.params.now c.args.place) c.args.points.now.items c.point_count-count.ensures.count;
  keys = c.requires.keys;
  versions = c.requires.versions;
}

pub loop-i-preserved : goal.loop-i-preserved
loop-i-preserved c =
    let dims = c.args.params.now.dims in
    let is = c.in_ok-push_point.ensures.last in
    let items : List Point = c.loop-i.points.items in
    let early : c.entry_point-point.result.version < 2 ^ 32 - 1 = let same = c.entry_point-point.ensures.version in let below = c.requires.version in omega (arith, same, below) in
    record {
      points = point_put c.args.params.now (entered_at c.args.version c.args.entry.now) c.args.place c.point_count-count.result c.loop-i.i items c.push_point.new.points.items _ c.entry_point-point.result
          c.loop-i-test.true c.entry_point-point.ensures.point is c.loop-i.invariant.points;
      keys = subst (λ (l : List Point). All (λ (p : Point). AreKeysBelow dims p.keys) l) (sym is) (All-push (λ (p : Point). AreKeysBelow dims p.keys) items c.entry_point-point.result c.loop-i.invariant.keys c.entry_point-point.ensures.keys);
      versions = subst (λ (l : List Point). All (λ (p : Point). p.version < 2 ^ 32 - 1) l) (sym is) (All-push (λ (p : Point). p.version < 2 ^ 32 - 1) items c.entry_point-point.result c.loop-i.invariant.versions early);
    }

pub returns-clause-points : goal.returns-clause-points
returns-clause-points c =
    let past : c.point_count-count.result ≤ c.loop-i.i = omega (arith, c.loop-i-test.false) in
    points_end c.args.params.now (entered_at c.args.version c.args.entry.now) c.args.place c.point_count-count.result c.loop-i.i c.loop-i.points.items _ past c.loop-i.invariant.points
