use Rattle.std.proofs.Common.{◌+◌, ◌-◌, subst}
use Rattle.page_warehouse.specs.Batches.{batches_from}
use Rattle.compact_store.specs.Cuts.{batches_by_size}
use Rattle.compact_store.specs.Putting.{Puts}
use Rattle.compact_store.proofs.Steps.{puts_stop, puts_then}
use Rattle.compact_store.proofs.filling.put_all.Goals as goal

pub returns-in-Ok : goal.returns-in-Ok
returns-in-Ok g c =
    puts_then g.E.Disk g.X.DomIndex (batches_by_size c.args.version c.args.adds.now) (batches_from (c.args.version + 1) (c.args.last - c.args.version) c.args.later.now) c.args.house c.in-Ok.house c.put_versions.result
    (subst (λ q. Puts g.E.Disk g.X.DomIndex (batches_by_size c.args.version c.args.adds.now) c.args.house q) c.in-Ok.is c.put_by_size.ensures) c.put_versions.ensures

pub returns-in-Err : goal.returns-in-Err
returns-in-Err g c =
    puts_stop g.E.Disk g.X.DomIndex (batches_by_size c.args.version c.args.adds.now) (batches_from (c.args.version + 1) (c.args.last - c.args.version) c.args.later.now) c.args.house c.in-Err.ended
    (subst (λ q. Puts g.E.Disk g.X.DomIndex (batches_by_size c.args.version c.args.adds.now) c.args.house q) c.in-Err.is c.put_by_size.ensures)
