use Rattle.std.proofs.Common.{◌+◌, ◌∙◌, [], length, sym, ap, subst, Err}
use Rattle.page_warehouse.specs.Shown.{disk_in}
use Rattle.compact_store.specs.Compacted.{LeavesPart}
use Rattle.compact_store.specs.Cuts.{batches_of}
use Rattle.compact_store.specs.Putting.{GoesTo}
use Rattle.compact_store.specs.declared.compacting.Compacted.TheVariants.{Done}
use Rattle.compact_store.proofs.Filled.{all_put, all_sound, done_leaves, refused_leaves, refused_sound}
use Rattle.compact_store.proofs.filling.fill.Goals as goal

pub returns-in-Err-clause-leaves : goal.returns-in-Err-clause-leaves
returns-in-Err-clause-leaves g c = λ params start ready.
    let whole = batches_of c.args.version c.args.last c.args.adds.now c.args.later.now in
    subst (λ r. LeavesPart g.E.Disk g.X.DomIndex params whole start r) (sym c.refusal.ensures)
    (refused_leaves g.E.Disk g.X.DomIndex params whole start c.args.second c.open_on.result (ready.0 whole) c.open_on.ensures.writes.tells c.open_on.ensures.any_moment
    c.holding_laws.ensures.queries c.in-Err.refused c.in-Err.is c.in-Err.ensures.refused)

pub returns-in-Err-clause-sound : goal.returns-in-Err-clause-sound
returns-in-Err-clause-sound g c = λ params start e page ready lawful is.
    let whole = batches_of c.args.version c.args.last c.args.adds.now c.args.later.now in
    refused_sound g.E.Disk g.X.DomIndex params whole start c.args.second c.open_on.result (ready.0 whole) c.open_on.ensures.writes.tells c.open_on.ensures.any_moment
    c.holding_laws.ensures.queries c.in-Err.refused e page c.in-Err.ensures.refused (sym c.refusal.ensures ∙ is)

pub returns-in-Ok-put_all-clause-leaves : goal.returns-in-Ok-put_all-clause-leaves
returns-in-Ok-put_all-clause-leaves g c = λ params start ready.
    let whole = batches_of c.args.version c.args.last c.args.adds.now c.args.later.now in
    let at = all_put g.E.Disk g.X.DomIndex params whole start c.args.second c.open_on.result (ready.0 whole) c.open_on.ensures.writes.tells c.open_on.ensures.any_moment ready.1
    c.in-Ok.house c.put_all.result c.in-Ok.is c.in-Ok.ensures.opened c.put_all.ensures in
    let here = subst (λ r. GoesTo g.E.Disk g.X.DomIndex params whole [] start r) c.in-Ok-put_all.is at in
    subst (λ d. LeavesPart g.E.Disk g.X.DomIndex params whole start (Done d c.row_count.result)) (sym c.into_disk.ensures)
    (done_leaves g.E.Disk g.X.DomIndex params whole start (disk_in c.in-Ok-put_all.house) c.row_count.result here.1 (◌∙◌ {b = length c.args.adds.now + length c.args.later.now} c.row_count.ensures c.requires.all))

pub returns-in-Err-put_all-clause-leaves : goal.returns-in-Err-put_all-clause-leaves
returns-in-Err-put_all-clause-leaves g c = λ params start ready.
    let whole = batches_of c.args.version c.args.last c.args.adds.now c.args.later.now in
    let at = all_put g.E.Disk g.X.DomIndex params whole start c.args.second c.open_on.result (ready.0 whole) c.open_on.ensures.writes.tells c.open_on.ensures.any_moment ready.1
    c.in-Ok.house c.put_all.result c.in-Ok.is c.in-Ok.ensures.opened c.put_all.ensures in
    subst (λ r. GoesTo g.E.Disk g.X.DomIndex params whole [] start r) c.in-Err-put_all.is at

pub returns-in-Err-put_all-clause-sound : goal.returns-in-Err-put_all-clause-sound
returns-in-Err-put_all-clause-sound g c = λ params start e page ready lawful is.
    let whole = batches_of c.args.version c.args.last c.args.adds.now c.args.later.now in
    all_sound g.E.Disk g.X.DomIndex params whole start c.args.second c.open_on.result (ready.0 whole) c.open_on.ensures.writes.tells c.open_on.ensures.any_moment ready.1
    c.in-Ok.house c.put_all.result c.in-Ok.is c.in-Ok.ensures.opened c.put_all.ensures lawful e page (c.in-Err-put_all.is ∙ ap Err is)
