-- Why nothing was gathered.
use Rattle.ports.specs.declared.page.PageFault.{PageFault}
use Rattle.ports.specs.declared.page.PageFault.TheVariants as page_fault
use Rattle.page_warehouse.specs.declared.gathering.GatherFault.{GatherFault}
use Rattle.page_warehouse.specs.declared.gathering.GatherFault.TheVariants.{Disk, Damaged}

-- a refusal to read, as it is handed on
abbrev pub read_fault : PageFault → GatherFault
read_fault page_fault.Disk = Disk
read_fault (page_fault.Damaged page) = Damaged page
