-- The faults of a reading differ from one another.
use Rattle.std.proofs.Common.{◌≡◌, ◌⊎◌, ℕ, Result, Ok, Err, inl, inr, sym, ◌∙◌, ap}
use Rattle.settled_pages.specs.declared.settled.SettledPages.{SettledPages}
use Rattle.settled_pages.specs.declared.fault.SettleFault.{SettleFault}
use Rattle.settled_pages.specs.declared.fault.SettleFault.TheVariants.{BadJournal, Disk, Empty, NoMemory}

abbrev number_of : SettleFault → ℕ
number_of Disk = 0
number_of Empty = 1
number_of (BadJournal page) = 2
number_of NoMemory = 3

abbrev number_in : Result SettledPages SettleFault → ℕ
number_in (Ok found) = 4
number_in (Err fault) = number_of fault

pub bad_is_no_other : (fault : SettleFault) (page : ℕ) → fault ≡ BadJournal page → (fault ≡ Disk) ⊎ (fault ≡ NoMemory) → ⊥
bad_is_no_other fault page is (inl disk) = let no : 2 ≡ 0 = ap number_of (sym is ∙ disk) in absurd cc
bad_is_no_other fault page is (inr memory) = let no : 2 ≡ 3 = ap number_of (sym is ∙ memory) in absurd cc

pub bad_is_made : (fault : SettleFault) (page : ℕ) → fault ≡ BadJournal page
    → (◌≡◌ {A = Result SettledPages SettleFault} (Err fault) (Err Empty)) ⊎ (◌≡◌ {A = Result SettledPages SettleFault} (Err fault) (Err Disk)) → ⊥
bad_is_made fault page is (inl empty) = let no : 2 ≡ 1 = sym (ap number_of is) ∙ ap number_in empty in absurd cc
bad_is_made fault page is (inr disk) = let no : 2 ≡ 0 = sym (ap number_of is) ∙ ap number_in disk in absurd cc
