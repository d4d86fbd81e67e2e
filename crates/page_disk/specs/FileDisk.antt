-- What a `FileDisk` shows.
use Rattle.std.specs.Prelude.{◌≡◌, ℕ, List, Option}
use Rattle.page_disk.specs.declared.disk.Area.{Area}
use Rattle.page_disk.specs.declared.disk.Area.TheVariants.{Pages, Journal}
use Rattle.page_disk.specs.declared.area_file.AreaFile.{AreaFile}
use Rattle.page_disk.specs.declared.failure.Failure.{Failure}
use Rattle.page_disk.specs.declared.file_disk.FileDisk.{FileDisk}

module _ {Runtime File Folder : Type 0} where
  abbrev pub read_count : FileDisk Runtime File Folder → ℕ
  read_count disk = disk.reads

  abbrev pub fault_count : FileDisk Runtime File Folder → ℕ
  fault_count disk = disk.faults

  -- the name of the file of the Pages area
  abbrev pub pages_file : FileDisk Runtime File Folder → List ℕ
  pages_file disk = disk.pages.name.now

  -- the name of the file of the Journal area
  abbrev pub journal_file : FileDisk Runtime File Folder → List ℕ
  journal_file disk = disk.journal.name.now

  -- the last call on a file that failed
  abbrev pub failure_of : FileDisk Runtime File Folder → Option Failure
  failure_of disk = disk.last_failure

  -- The disk is over the same two files.
  abbrev pub KeepsFiles : FileDisk Runtime File Folder → FileDisk Runtime File Folder → Type 0
  KeepsFiles old new = (pages_file new ≡ pages_file old) × (journal_file new ≡ journal_file old)

  -- what is kept of the file of the area that is not this one
  abbrev pub other_file : Area → FileDisk Runtime File Folder → AreaFile Runtime File Folder
  other_file Pages disk = disk.journal
  other_file Journal disk = disk.pages
