use Rattle.std.proofs.Common.{◌-◌, ◌+◌, Result}
use Rattle.page_warehouse.specs.declared.state.Warehouse.{Warehouse}
use Rattle.page_warehouse.specs.Batches.{batches_from}
use Rattle.compact_store.specs.Putting.{Puts}
use Rattle.compact_store.specs.declared.compacting.Compacted.{Compacted}
use Rattle.compact_store.proofs.putting.put_versions.Given as goal

-- what puts the batches that are left puts them all
abbrev pub invariant-loop-before : goal.invariant-loop-before
invariant-loop-before g l =
    (r : Result (Warehouse _ _ g.E.Disk g.X.DomIndex) (Compacted _)) → Puts g.E.Disk g.X.DomIndex (batches_from (l.before + 1) (l.last - l.before) l.later) l.house r
    → Puts g.E.Disk g.X.DomIndex (batches_from (l.fn.first + 1) (l.fn.last - l.fn.first) l.fn.events) l.fn.house r
