-- What a `PlainDisk` shows.
use Rattle.std.specs.Prelude.{ℕ}
use Rattle.page_disk.specs.declared.plain_disk.PlainDisk.{PlainDisk}
use Rattle.page_disk.specs.Image.{Image}

abbrev pub image_of : PlainDisk → Image
image_of disk = record { pages = disk.pages.items; journal = disk.journal.items }

abbrev pub read_count : PlainDisk → ℕ
read_count disk = disk.reads

abbrev pub fault_count : PlainDisk → ℕ
fault_count disk = disk.faults
