-- A space that was opened, and a disk that was refused.
use Rattle.std.proofs.Common.{◌≡◌, ℕ, IsTrue, ◌∙◌, length}
use Rattle.std.specs.Prelude.{Result, Ok, Err, IfOk, IfErr}
use Rattle.page_disk.specs.declared.disk.Disk.{Ghosts}
use Rattle.page_disk.specs.Image.{PageList, Image}
use Rattle.page_disk.specs.Since.{LeavesNow}
use Rattle.redo_journal.specs.Gates.{gate_of}
use Rattle.redo_journal.specs.declared.gate.Gate.TheVariants.{Idle}
use Rattle.redo_journal.specs.Settled.{SettlesTo, SettlesToOne}
use Rattle.page_space.specs.declared.space.Space.{Space}
use Rattle.page_space.specs.declared.refusal.OpenRefused.{OpenRefused}
use Rattle.page_space.specs.declared.refusal.OpenFault.{OpenFault}
use Rattle.page_space.specs.declared.refusal.OpenFault.TheVariants.{Disk, Empty, Damaged, NoMemory, BadJournal}
use Rattle.page_space.specs.Faults.{AtBadJournal, AtDamaged, AtEmpty, AtNoMemory}
use Rattle.page_space.specs.Opened.{IsRefusedAsSpace, IsSpaceOf}
use Rattle.page_space.specs.Opening.{IsDamagedAt, IsSomeSpace, StandsDamagedAt, StandsWhole}
use Rattle.page_space.specs.Refused.{opened_disk}
use Rattle.page_space.proofs.Settled.{idle_settles}
use Rattle.page_space.proofs.Standing.{is_space}

-- What would be so of a fault that it is not.
pub never_empty : (fault : OpenFault) (P : Type 0) → AtEmpty fault ⊥ → AtEmpty fault P
never_empty Disk P never = tt
never_empty Empty P never = absurd never
never_empty (Damaged page) P never = tt
never_empty NoMemory P never = tt
never_empty (BadJournal page) P never = tt

pub never_bad : (fault : OpenFault) (P : ℕ → Type 0) → AtBadJournal fault (λ _. ⊥) → AtBadJournal fault P
never_bad Disk P never = tt
never_bad Empty P never = tt
never_bad (Damaged page) P never = tt
never_bad NoMemory P never = tt
never_bad (BadJournal page) P never = absurd never

pub never_damaged : (fault : OpenFault) (P : ℕ → Type 0) → AtDamaged fault (λ _. ⊥) → AtDamaged fault P
never_damaged Disk P never = tt
never_damaged Empty P never = tt
never_damaged (Damaged page) P never = absurd never
never_damaged NoMemory P never = tt
never_damaged (BadJournal page) P never = tt

pub never_no_memory : (fault : OpenFault) (P : Type 0) → AtNoMemory fault ⊥ → AtNoMemory fault P
never_no_memory Disk P never = tt
never_no_memory Empty P never = tt
never_no_memory (Damaged page) P never = tt
never_no_memory NoMemory P never = absurd never
never_no_memory (BadJournal page) P never = tt

-- What is found on pages is said of the disk that stands for them.
damaged_on : (fault : OpenFault) (x : Image) (pages : PageList) (told told' : Type 0) → (told → told') → (told → SettlesTo x pages)
    → AtDamaged fault (λ page. told' → IsDamagedAt pages page) → AtDamaged fault (λ page. told → StandsDamagedAt x page)
damaged_on Disk x pages told told' back settles h = tt
damaged_on Empty x pages told told' back settles h = tt
damaged_on (Damaged page) x pages told told' back settles h = λ is. (pages, (settles is, h (back is)))
damaged_on NoMemory x pages told told' back settles h = tt
damaged_on (BadJournal page) x pages told told' back settles h = tt

whole_on : (fault : OpenFault) (x : Image) (pages : PageList) (told told' : Type 0) → (told → told') → (told → SettlesTo x pages)
    → AtNoMemory fault (told' → IsSomeSpace pages) → AtNoMemory fault (told → StandsWhole x)
whole_on Disk x pages told told' back settles h = tt
whole_on Empty x pages told told' back settles h = tt
whole_on (Damaged page) x pages told told' back settles h = tt
whole_on NoMemory x pages told told' back settles h = λ is. (pages, (settles is, h (back is)))
whole_on (BadJournal page) x pages told told' back settles h = tt

module _ {D : Type 0} {g : Ghosts D} where
  -- The space that is opened on a settled disk is the one of the disk before.
  pub opened_is : (r : Result (Space D g) (OpenRefused D)) (settled disk : D) → g.tells (opened_disk r) ≡ g.tells disk → g.image (opened_disk r) ≡ g.image settled
      → (IsTrue (g.tells disk) → SettlesTo (g.image disk) (g.image settled).pages)
      → (IsTrue (g.tells disk) → length (g.image settled).journal ≡ length (g.image disk).journal)
      → IfOk r (λ space. IsSpaceOf g disk space)
  opened_is (Ok s) settled disk tells image settles journal = record {
    holds = λ told. record { pages = (g.image s.disk).pages; settled = rw image (settles told); space = is_space s (tells ∙ told) };
    settles = λ told. rw image (settles told);
    roots = record { in_range = s.in_range; rules = s.rules; typed = s.typed; few = s.few };
    idle = λ told. s.idle (tells ∙ told);
    journal = λ told. rw image (journal told);
    settled = s.settled;
  }
  opened_is (Err r) settled disk tells image settles journal = tt

  -- A settled disk that is no space is refused for its pages, which the disk before stands for.
  pub refused_is : (r : Result (Space D g) (OpenRefused D)) (settled disk : D) → SettlesToOne → g.tells settled ≡ g.tells disk
      → g.image (opened_disk r) ≡ g.image settled → g.moments (opened_disk r) ≡ g.moments settled
      → (IsTrue (g.tells disk) → SettlesTo (g.image disk) (g.image settled).pages) → (IsTrue (g.tells disk) → gate_of (g.image settled) ≡ Idle)
      → LeavesNow (g.moments settled) (g.image settled)
      → IfErr r (λ refused. AtEmpty refused.fault ⊥) → IfErr r (λ refused. AtBadJournal refused.fault (λ _. ⊥))
      → IfErr r (λ refused. AtDamaged refused.fault (λ page. IsTrue (g.tells settled) → IsDamagedAt (g.image settled).pages page))
      → IfErr r (λ refused. AtNoMemory refused.fault (IsTrue (g.tells settled) → IsSomeSpace (g.image settled).pages))
      → IfErr r (λ refused. IsRefusedAsSpace g disk refused.fault refused.disk)
  refused_is (Ok s) settled disk one tells image moments settles idle leaves not_empty not_bad damaged no_memory = tt
  refused_is (Err r) settled disk one tells image moments settles idle leaves not_empty not_bad damaged no_memory = record {
    empty = never_empty r.fault _ not_empty;
    bad_journal = never_bad r.fault _ not_bad;
    damaged = damaged_on r.fault (g.image disk) (g.image settled).pages _ _ (λ told. tells ∙ told) settles damaged;
    no_memory = whole_on r.fault (g.image disk) (g.image settled).pages _ _ (λ told. tells ∙ told) settles no_memory;
    stands = λ differs told pages stands. rw (image, one (g.image disk) pages (g.image settled).pages stands (settles told)) (idle_settles (g.image settled) (idle told));
    settled = λ differs told. rw (image, moments) leaves;
  }
