-- The numbers and the texts of the statuses.
use Rattle.std.specs.Prelude.{ℕ, List, [], ◌++◌, codes, decimal}
use Rattle.page_disk.specs.declared.disk.Area.TheVariants.{Pages, Journal}
use Rattle.page_space.specs.declared.refusal.OpenFault.{OpenFault}
use Rattle.page_space.specs.declared.refusal.OpenFault.TheVariants as fault
use Rattle.page_warehouse.specs.declared.gathering.GatherFault.{GatherFault}
use Rattle.page_warehouse.specs.declared.gathering.GatherFault.TheVariants as gathering
use Rattle.row_machine.specs.declared.ending.Ending.{Ending}
use Rattle.row_machine.specs.declared.ending.Ending.TheVariants as ending
use Rattle.boxsum.specs.declared.status.Status.{Status}
use Rattle.boxsum.specs.declared.status.Status.TheVariants.{Fine, Usage, NoWarehouse, AlreadyThere, ReadFault, WriteFault, DiskFault, NoMemory, Damaged, InputLimit, PageLimit, NoVersion}

-- the status of a run over an input that ended so
abbrev pub status_of : Ending → Status
status_of ending.Fine = Fine
status_of ending.ReadFault = ReadFault
status_of ending.WriteFault = WriteFault
status_of ending.NoMemory = NoMemory
status_of (ending.InputLimit taken) = InputLimit taken
status_of ending.DiskFault = DiskFault
status_of (ending.Damaged page) = Damaged Pages page
status_of (ending.PageLimit allotted) = PageLimit allotted

-- the status of a run over a disk that was not opened
abbrev pub status_of_fault : OpenFault → Status
status_of_fault fault.Disk = DiskFault
status_of_fault fault.Empty = NoWarehouse
status_of_fault (fault.Damaged page) = Damaged Pages page
status_of_fault fault.NoMemory = NoMemory
status_of_fault (fault.BadJournal page) = Damaged Journal page

-- the status of an export whose history was not gathered
abbrev pub status_of_gathering : GatherFault → Status
status_of_gathering gathering.Disk = DiskFault
status_of_gathering (gathering.Damaged page) = Damaged Pages page
status_of_gathering gathering.NoMemory = NoMemory

-- the status of a sample, by that of the run that loads it: a disk that shows no warehouse where one was just made is damaged, and
-- what the run lacks for its input and its output, which lie in memory, is memory
abbrev pub status_amid : Status → Status
status_amid NoWarehouse = Damaged Pages 0
status_amid ReadFault = NoMemory
status_amid WriteFault = NoMemory
status_amid (InputLimit taken) = NoMemory
status_amid (NoVersion last) = NoMemory
status_amid Usage = NoMemory
status_amid AlreadyThere = NoMemory
status_amid status = status

-- the exit status
abbrev pub exit_code : Status → ℕ
exit_code Fine = 0
exit_code Usage = 2
exit_code NoWarehouse = 3
exit_code AlreadyThere = 4
exit_code ReadFault = 5
exit_code WriteFault = 6
exit_code DiskFault = 7
exit_code NoMemory = 8
exit_code (Damaged area page) = 9
exit_code (InputLimit taken) = 10
exit_code (PageLimit allotted) = 11
exit_code (NoVersion last) = 12

-- what is printed to standard error after the program's name
abbrev pub status_text : Status → List ℕ
status_text Fine = []
status_text Usage = codes "usage: boxsum create D [--degree G] [--events N] [--pages N] [--signed S], run, scratch D [--degree G] [--events N] [--signed S], sample START COUNT, check, spans, spanrun, report, export, compact V"
status_text NoWarehouse = codes "no warehouse here"
status_text AlreadyThere = codes "there is a warehouse already"
status_text ReadFault = codes "input failed"
status_text WriteFault = codes "output failed"
status_text DiskFault = codes "disk failed"
status_text NoMemory = codes "no memory"
status_text (Damaged Pages page) = codes "damaged page " ++ decimal page
status_text (Damaged Journal page) = codes "damaged journal page " ++ decimal page
status_text (InputLimit taken) = codes "input too long"
status_text (PageLimit allotted) = codes "page limit " ++ (decimal allotted ++ codes " reached")
status_text (NoVersion last) = codes "last version is " ++ decimal last
