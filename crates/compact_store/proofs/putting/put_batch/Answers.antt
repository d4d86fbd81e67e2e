use Rattle.std.proofs.Common.{◌∷◌, [], map, sym, ◌∙◌, subst, Err}
use Rattle.page_warehouse.specs.Events.{change_in}
use Rattle.compact_store.specs.Putting.{Puts}
use Rattle.compact_store.specs.declared.compacting.Compacted.TheVariants.{NoMemory}
use Rattle.compact_store.proofs.Steps.{no_rows_puts}
use Rattle.compact_store.proofs.putting.put_batch.Goals as goal

pub returns-in-Ok : goal.returns-in-Ok
returns-in-Ok g c = c.put_rows.ensures (map change_in c.args.events.now) (c.deref.ensures.value ∙ c.in-Ok.ensures)

pub returns-in-Err : goal.returns-in-Err
returns-in-Err g c =
    subst (λ d. Puts g.E.Disk g.X.DomIndex (map change_in c.args.events.now ∷ []) c.args.house (Err (NoMemory d))) (sym c.into_disk.ensures)
    (no_rows_puts g.E.Disk g.X.DomIndex (map change_in c.args.events.now ∷ []) c.args.house)
