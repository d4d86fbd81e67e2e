use Rattle.std.proofs.Common.{◌≡◌, ◌∙◌, ◌++◌, Err, ap, of_z, to_z, rules}
use Rattle.std.proofs.lemmas.Result.{on_ok_weaker}
use Rattle.std.specs.Int.{w128}
use Rattle.span_planes.specs.Shown.{disk_in}
use Rattle.span_planes.proofs.RowAnswers.{bad_replied, none_replied, row_reads, span_replied}
use Rattle.span_planes.proofs.desk.answer_row.Goals as goal

pub returns-then-not-there-clause-replies : goal.returns-then-not-there-clause-replies
returns-then-not-there-clause-replies g c =
    on_ok_weaker c.put_reply.result (λ put params h held.
    put ∙ ap (λ t. c.args.replies.now.items ++ t) (none_replied params h c.args.row.now c.unwrap_or-first.result c.unwrap_or-last.result c.last-newest.result
    (c.last-newest.ensures.held params h held) c.unwrap_or-first.ensures c.unwrap_or-last.ensures c.args.number c.if-not-there.true)) c.put_reply.ensures.put

pub returns-then-first-last-clause-replies : goal.returns-then-first-last-clause-replies
returns-then-first-last-clause-replies g c =
    on_ok_weaker c.put_reply-then-first-last.result (λ put params h held.
    put ∙ ap (λ t. c.args.replies.now.items ++ t) (bad_replied params h c.args.row.now c.unwrap_or-first.result c.unwrap_or-last.result c.last-newest.result
    (c.last-newest.ensures.held params h held) c.unwrap_or-first.ensures c.unwrap_or-last.ensures c.args.number c.if-not-there.false c.if-first-last.true)) c.put_reply-then-first-last.ensures.put

pub returns-in-Ok-clause-replies : goal.returns-in-Ok-clause-replies
returns-in-Ok-clause-replies g c =
    let back : to_z w128 (of_z w128 c.in-Ok.value) ≡ c.in-Ok.value = search rules in
    on_ok_weaker c.put_span.result (λ put params h held.
    span_replied params h c.args.row.now c.unwrap_or-first.result c.unwrap_or-last.result c.last-newest.result
    (c.last-newest.ensures.held params h held) c.unwrap_or-first.ensures c.unwrap_or-last.ensures c.if-not-there.false c.if-first-last.false
    c.args.number c.args.replies.now.items c.put_span.new.replies.items (to_z w128 (of_z w128 c.in-Ok.value)) (back ∙ c.in-Ok.ensures.answers params h held) put) c.put_span.ensures.put

pub returns-in-Ok-clause-reads : goal.returns-in-Ok-clause-reads
returns-in-Ok-clause-reads g c = λ params h held.
    row_reads params h c.args.row.now c.unwrap_or-first.result c.unwrap_or-last.result c.last-newest.result
    (c.last-newest.ensures.held params h held) c.unwrap_or-first.ensures c.unwrap_or-last.ensures c.if-not-there.false c.if-first-last.false
    g.X.DomIndex.cost (g.E.Disk.reads (disk_in c.args.spans.now)) (g.E.Disk.reads (disk_in c.query.new.self)) (c.query.ensures.reads params h held)

pub returns-in-Err-Disk-clause-reads : goal.returns-in-Err-Disk-clause-reads
returns-in-Err-Disk-clause-reads g c = λ params h held.
    row_reads params h c.args.row.now c.unwrap_or-first.result c.unwrap_or-last.result c.last-newest.result
    (c.last-newest.ensures.held params h held) c.unwrap_or-first.ensures c.unwrap_or-last.ensures c.if-not-there.false c.if-first-last.false
    g.X.DomIndex.cost (g.E.Disk.reads (disk_in c.args.spans.now)) (g.E.Disk.reads (disk_in c.query.new.self)) (c.query.ensures.reads params h held)

pub returns-in-Err-Damaged-clause-reads : goal.returns-in-Err-Damaged-clause-reads
returns-in-Err-Damaged-clause-reads g c = λ params h held.
    row_reads params h c.args.row.now c.unwrap_or-first.result c.unwrap_or-last.result c.last-newest.result
    (c.last-newest.ensures.held params h held) c.unwrap_or-first.ensures c.unwrap_or-last.ensures c.if-not-there.false c.if-first-last.false
    g.X.DomIndex.cost (g.E.Disk.reads (disk_in c.args.spans.now)) (g.E.Disk.reads (disk_in c.query.new.self)) (c.query.ensures.reads params h held)

pub returns-in-Err-Damaged-clause-sound : goal.returns-in-Err-Damaged-clause-sound
returns-in-Err-Damaged-clause-sound g c = λ params h page held _.
    c.query.ensures.sound params h c.in-Err-Damaged.page held (c.in-Err-Damaged.is ∙ ap Err c.in-Err-Damaged.field-0-is)
