-- The faults of a reading.
use Rattle.std.specs.Prelude.{ℕ, Bool, true, false}
use Rattle.ports.specs.declared.page.PageFault.{PageFault}
use Rattle.ports.specs.declared.page.PageFault.TheVariants as page_fault
use Rattle.settled_pages.specs.declared.fault.LookFault.{LookFault}
use Rattle.settled_pages.specs.declared.fault.LookFault.TheVariants as look_fault
use Rattle.settled_pages.specs.declared.fault.SettleFault.{SettleFault}
use Rattle.settled_pages.specs.declared.fault.SettleFault.TheVariants.{Disk, Empty, BadJournal, NoMemory}

-- whether the device failed
abbrev pub is_disk : SettleFault → Bool
is_disk Disk = true
is_disk Empty = false
is_disk (BadJournal page) = false
is_disk NoMemory = false

-- whether the device failed at a page
abbrev pub is_disk_at_page : PageFault → Bool
is_disk_at_page page_fault.Disk = true
is_disk_at_page (page_fault.Damaged page) = false

-- whether the device failed at a look
abbrev pub is_disk_at_look : LookFault → Bool
is_disk_at_look look_fault.Disk = true
is_disk_at_look look_fault.NoMemory = false

-- Where the fault is that the disk is empty, this holds.
abbrev pub AtEmpty : SettleFault → Type 0 → Type 0
AtEmpty Disk P = Unit {0}
AtEmpty Empty P = P
AtEmpty (BadJournal page) P = Unit {0}
AtEmpty NoMemory P = Unit {0}

-- Where the fault is that the journal is bad, this holds of its page.
abbrev pub AtBadJournal : SettleFault → (ℕ → Type 0) → Type 0
AtBadJournal Disk P = Unit {0}
AtBadJournal Empty P = Unit {0}
AtBadJournal (BadJournal page) P = P page
AtBadJournal NoMemory P = Unit {0}

-- Where the fault is that there was no memory, this holds.
abbrev pub AtNoMemory : SettleFault → Type 0 → Type 0
AtNoMemory Disk P = Unit {0}
AtNoMemory Empty P = Unit {0}
AtNoMemory (BadJournal page) P = Unit {0}
AtNoMemory NoMemory P = P
