-- The faults of an opening.
use Rattle.std.specs.Prelude.{ℕ, Bool, true, false}
use Rattle.page_space.specs.declared.refusal.OpenFault.{OpenFault}
use Rattle.page_space.specs.declared.refusal.OpenFault.TheVariants.{Disk, Empty, Damaged, NoMemory, BadJournal}

-- whether the device failed
abbrev pub is_disk : OpenFault → Bool
is_disk Disk = true
is_disk Empty = false
is_disk (Damaged n) = false
is_disk NoMemory = false
is_disk (BadJournal n) = false

-- Where the fault is that a page is damaged, this holds of it.
abbrev pub AtDamaged : OpenFault → (ℕ → Type 0) → Type 0
AtDamaged Disk P = Unit {0}
AtDamaged Empty P = Unit {0}
AtDamaged (Damaged n) P = P n
AtDamaged NoMemory P = Unit {0}
AtDamaged (BadJournal n) P = Unit {0}

-- Where the fault is that the journal is bad, this holds of its page.
abbrev pub AtBadJournal : OpenFault → (ℕ → Type 0) → Type 0
AtBadJournal Disk P = Unit {0}
AtBadJournal Empty P = Unit {0}
AtBadJournal (Damaged n) P = Unit {0}
AtBadJournal NoMemory P = Unit {0}
AtBadJournal (BadJournal n) P = P n

-- Where the fault is that the disk is empty, this holds.
abbrev pub AtEmpty : OpenFault → Type 0 → Type 0
AtEmpty Disk P = Unit {0}
AtEmpty Empty P = P
AtEmpty (Damaged n) P = Unit {0}
AtEmpty NoMemory P = Unit {0}
AtEmpty (BadJournal n) P = Unit {0}

-- Where the fault is that there was no memory, this holds.
abbrev pub AtNoMemory : OpenFault → Type 0 → Type 0
AtNoMemory Disk P = Unit {0}
AtNoMemory Empty P = Unit {0}
AtNoMemory (Damaged n) P = Unit {0}
AtNoMemory NoMemory P = P
AtNoMemory (BadJournal n) P = Unit {0}
