-- How a derivation ends where a call before its end failed.
use Rattle.page_warehouse.specs.declared.gathering.GatherFault.{GatherFault}
use Rattle.page_warehouse.specs.declared.gathering.GatherFault.TheVariants as gather_fault
use Rattle.ports.specs.declared.page.StageFault.{StageFault}
use Rattle.ports.specs.declared.page.StageFault.TheVariants as stage_fault
use Rattle.span_planes.specs.declared.making.Derived.{Derived}
use Rattle.span_planes.specs.declared.making.Derived.TheVariants.{PageLimit, Damaged, NoMemory, Disk}

-- where no events were gathered
abbrev pub gathering_of : {E : Type 0} → GatherFault → E → Derived E
gathering_of gather_fault.Disk second = Disk second
gathering_of (gather_fault.Damaged page) second = Damaged second page
gathering_of gather_fault.NoMemory second = NoMemory second

-- where the stage was abandoned
abbrev pub abandoning_of : {E : Type 0} → StageFault → E → Derived E
abandoning_of stage_fault.Disk second = Disk second
abandoning_of (stage_fault.Damaged page) second = Damaged second page
abandoning_of (stage_fault.PageLimit allotted) second = PageLimit second allotted
abandoning_of stage_fault.NoMemory second = NoMemory second
