-- The answers of a replay.
use Rattle.std.specs.Prelude.{ℕ, Bool, true, false, Result, Ok, Err}
use Rattle.redo_journal.specs.declared.replaying.JournalFault.{JournalFault}
use Rattle.redo_journal.specs.declared.replaying.JournalFault.TheVariants.{Disk, Damaged}

-- whether the device failed
abbrev pub is_disk : JournalFault → Bool
is_disk Disk = true
is_disk (Damaged page) = false

-- What holds of the page that a fault names.
abbrev pub OfDamaged : JournalFault → (ℕ → Type 0) → Type 0
OfDamaged Disk P = Unit {0}
OfDamaged (Damaged page) P = P page

-- What holds of the page where the answer is that it is damaged.
abbrev pub OnDamaged : {T : Type 0} → Result T JournalFault → (ℕ → Type 0) → Type 0
OnDamaged (Ok value) P = Unit {0}
OnDamaged (Err fault) P = OfDamaged fault P
