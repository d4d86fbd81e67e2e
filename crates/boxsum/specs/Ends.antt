-- With which statuses each command may end. Those of `spanrun` are those of `report`.
use Rattle.std.specs.Prelude.{Bool, true, false, Option, Some, None}
use Rattle.command_words.specs.declared.command.Command.{Command}
use Rattle.command_words.specs.declared.command.Command.TheVariants.{Create, Run, Scratch, Sample, Check, Report, Export, Compact}
use Rattle.boxsum.specs.declared.status.Status.{Status}
use Rattle.boxsum.specs.declared.status.Status.TheVariants.{Fine, Usage, NoWarehouse, AlreadyThere, ReadFault, WriteFault, DiskFault, NoMemory, Damaged, InputLimit, PageLimit, NoVersion}

abbrev pub ends_create : Status → Bool
ends_create Fine = true
ends_create AlreadyThere = true
ends_create DiskFault = true
ends_create NoMemory = true
ends_create _ = false

abbrev pub ends_run : Status → Bool
ends_run Usage = false
ends_run AlreadyThere = false
ends_run (NoVersion last) = false
ends_run _ = true

abbrev pub ends_scratch : Status → Bool
ends_scratch Fine = true
ends_scratch ReadFault = true
ends_scratch WriteFault = true
ends_scratch NoMemory = true
ends_scratch (InputLimit taken) = true
ends_scratch _ = false

abbrev pub ends_sample : Status → Bool
ends_sample Fine = true
ends_sample AlreadyThere = true
ends_sample WriteFault = true
ends_sample DiskFault = true
ends_sample NoMemory = true
ends_sample (Damaged area page) = true
ends_sample (PageLimit allotted) = true
ends_sample _ = false

abbrev pub ends_report : Status → Bool
ends_report Fine = true
ends_report NoWarehouse = true
ends_report ReadFault = true
ends_report WriteFault = true
ends_report DiskFault = true
ends_report NoMemory = true
ends_report (Damaged area page) = true
ends_report (InputLimit taken) = true
ends_report _ = false

abbrev pub ends_export : Status → Bool
ends_export Fine = true
ends_export NoWarehouse = true
ends_export WriteFault = true
ends_export DiskFault = true
ends_export NoMemory = true
ends_export (Damaged area page) = true
ends_export _ = false

abbrev pub ends_check : Status → Bool
ends_check Fine = true
ends_check NoWarehouse = true
ends_check WriteFault = true
ends_check DiskFault = true
ends_check NoMemory = true
ends_check _ = false

abbrev pub ends_compact : Status → Bool
ends_compact Usage = false
ends_compact ReadFault = false
ends_compact (InputLimit taken) = false
ends_compact _ = true

abbrev pub ends_spans : Status → Bool
ends_spans Usage = false
ends_spans ReadFault = false
ends_spans (InputLimit taken) = false
ends_spans (NoVersion last) = false
ends_spans _ = true

abbrev pub ends_nothing : Status → Bool
ends_nothing Usage = true
ends_nothing NoMemory = true
ends_nothing _ = false

-- what is asked for may end so
abbrev pub may_end : Option Command → Status → Bool
may_end None status = ends_nothing status
may_end (Some (Create params)) status = ends_create status
may_end (Some Run) status = ends_run status
may_end (Some (Scratch params)) status = ends_scratch status
may_end (Some (Sample start count)) status = ends_sample status
may_end (Some Report) status = ends_report status
may_end (Some Export) status = ends_export status
may_end (Some Check) status = ends_check status
may_end (Some (Compact version)) status = ends_compact status
may_end (Some _) status = ends_nothing status
