use Rattle.std.proofs.Common.{◌≤◌, length, arith}
use Rattle.corner_forest.proofs.Gathering.{batch_end}
use Rattle.corner_forest.proofs.batch.points_of.Goals as goal

pub returns-clause-points : goal.returns-clause-points
returns-clause-points c =
    let past : length c.args.batch.now ≤ c.loop-i.i = omega (arith, c.loop-i-test.false) in
    batch_end c.args.params.now c.args.version c.args.place c.loop-i.i c.args.batch.now c.loop-i.points.items _ past c.loop-i.invariant.points
