-- How a compaction ends where a call before it failed.
use Rattle.page_warehouse.specs.declared.gathering.GatherFault.{GatherFault}
use Rattle.page_warehouse.specs.declared.gathering.GatherFault.TheVariants as gather_fault
use Rattle.page_space.specs.declared.refusal.OpenFault.{OpenFault}
use Rattle.page_space.specs.declared.refusal.OpenFault.TheVariants as open_fault
use Rattle.compact_store.specs.declared.compacting.Compacted.{Compacted}
use Rattle.compact_store.specs.declared.compacting.Compacted.TheVariants.{Damaged, NoMemory, Disk}

-- where nothing was gathered
abbrev pub ended_of : {E : Type 0} → GatherFault → E → Compacted E
ended_of gather_fault.Disk second = Disk second
ended_of (gather_fault.Damaged page) second = Damaged second page
ended_of gather_fault.NoMemory second = NoMemory second

-- where the new warehouse was not opened
abbrev pub refusal_of : {E : Type 0} → OpenFault → E → Compacted E
refusal_of open_fault.Disk second = Disk second
refusal_of open_fault.Empty second = Damaged second 0
refusal_of (open_fault.Damaged page) second = Damaged second page
refusal_of open_fault.NoMemory second = NoMemory second
refusal_of (open_fault.BadJournal page) second = Damaged second page
