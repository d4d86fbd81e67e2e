use Rattle.std.proofs.Common.{◌-◌, Result}
use Rattle.page_warehouse.specs.declared.state.Warehouse.{Warehouse}
use Rattle.compact_store.specs.Cuts.{batches_by_size}
use Rattle.compact_store.specs.Putting.{Puts}
use Rattle.compact_store.specs.declared.compacting.Compacted.{Compacted}
use Rattle.compact_store.proofs.putting.put_by_size.Given as goal

-- what puts the batches that are left puts them all
abbrev pub invariant-loop : goal.invariant-loop
invariant-loop g l =
    (r : Result (Warehouse _ _ g.E.Disk g.X.DomIndex) (Compacted _)) → Puts g.E.Disk g.X.DomIndex (batches_by_size (l.count - l.counter) l.later) l.house r
    → Puts g.E.Disk g.X.DomIndex (batches_by_size l.fn.count l.fn.events) l.fn.house r
