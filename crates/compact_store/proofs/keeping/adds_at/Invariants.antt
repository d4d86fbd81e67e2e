use Rattle.std.proofs.Common.{◌≡◌, ◌++◌, drop, map}
use Rattle.bw_types.specs.declared.change.Change.TheVariants.{Add}
use Rattle.history_laws.specs.Living.{objects_at}
use Rattle.page_warehouse.specs.Events.{change_in}
use Rattle.compact_store.proofs.keeping.adds_at.Given as goal

abbrev pub invariant-loop-dated : goal.invariant-loop-dated
invariant-loop-dated l = map change_in l.adds.items ++ map Add (objects_at l.fn.version (drop l.dated-index l.fn.lives)) ≡ map Add (objects_at l.fn.version l.fn.lives)
