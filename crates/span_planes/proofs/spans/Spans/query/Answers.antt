use Rattle.std.proofs.Common.{Err, ap, ◌∙◌}
use Rattle.span_planes.proofs.SameSpans.{as_before}
use Rattle.span_planes.proofs.spans.Spans.query.Goals as goal

pub returns-in-Ok-clause-kept : goal.returns-in-Ok-clause-kept
returns-in-Ok-clause-kept g c = as_before c.args.self.now c.between.new.self c.between.ensures.reads.read.base

pub returns-in-Err-Disk-clause-kept : goal.returns-in-Err-Disk-clause-kept
returns-in-Err-Disk-clause-kept g c = as_before c.args.self.now c.between.new.self c.between.ensures.reads.read.base

pub returns-in-Err-Damaged-clause-kept : goal.returns-in-Err-Damaged-clause-kept
returns-in-Err-Damaged-clause-kept g c = as_before c.args.self.now c.between.new.self c.between.ensures.reads.read.base

pub returns-in-Err-Damaged-clause-sound : goal.returns-in-Err-Damaged-clause-sound
returns-in-Err-Damaged-clause-sound g c = λ params h page holds _.
    c.between.ensures.sound params h c.in-Err-Damaged.page holds (c.in-Err-Damaged.is ∙ ap Err c.in-Err-Damaged.field-0-is)
