use Rattle.std.proofs.Common.{◌+◌, length, arith}
use Rattle.page_space.specs.Shown.{staged_meta}
use Rattle.span_planes.specs.Filled.{span_growth}
use Rattle.span_planes.proofs.Staged.{changes_then}
use Rattle.span_planes.proofs.writing.draft.Goals as goal

pub returns-clause-growth : goal.returns-clause-growth
returns-clause-growth g c = λ told turn.
    let n = span_growth c.args.params.now (length c.args.events.now) in
    changes_then _ n 0 n c.args.stage.now c.fill.new.stage c.set.new.stage c.set.result (c.fill.ensures.growth told turn).went_on c.set.ensures.changes (omega arith)

pub returns-clause-changes : goal.returns-clause-changes
returns-clause-changes g c =
    let same = c.set.ensures.allotted in
    let m = (staged_meta c.fill.new.stage).allotted + 1 in
    let n = (staged_meta c.set.new.stage).allotted + 1 in
    changes_then _ m 0 n c.args.stage.now c.fill.new.stage c.set.new.stage c.set.result c.fill.ensures.changes.went_on c.set.ensures.changes (omega (arith, same))
