-- What follows of a fault.
use Rattle.std.proofs.Common.{◌≡◌, ◌⊎◌, ℕ, Result, Ok, Err, inl, inr, refl}
use Rattle.std.specs.Prelude.{IfErr}
use Rattle.settled_pages.specs.Faults.{AtBadJournal, AtEmpty}
use Rattle.settled_pages.specs.declared.fault.SettleFault.{SettleFault}
use Rattle.settled_pages.specs.declared.fault.SettleFault.TheVariants.{Disk, Empty, BadJournal, NoMemory}

-- what holds of a bad page of the journal, weakened
pub bad_then : (fault : SettleFault) (P Q : ℕ → Type 0) → ((page : ℕ) → P page → Q page) → AtBadJournal fault P → AtBadJournal fault Q
bad_then Disk P Q step h = tt
bad_then Empty P Q step h = tt
bad_then (BadJournal page) P Q step h = step page h
bad_then NoMemory P Q step h = tt

-- Where no journal is bad, only the device or memory failed.
pub found_or_no_memory : {T : Type 0} (r : Result T SettleFault) (P : ℕ → Type 0) → IfErr r (λ fault. AtEmpty fault ⊥) → IfErr r (λ fault. AtBadJournal fault P)
    → ((page : ℕ) → P page → ⊥) → IfErr r (λ fault. (fault ≡ Disk) ⊎ (fault ≡ NoMemory))
found_or_no_memory (Ok value) P empty bad never = tt
found_or_no_memory (Err Disk) P empty bad never = inl refl
found_or_no_memory (Err Empty) P empty bad never = absurd empty
found_or_no_memory (Err (BadJournal page)) P empty bad never = absurd (never page bad)
found_or_no_memory (Err NoMemory) P empty bad never = inr refl
