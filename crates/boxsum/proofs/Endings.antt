-- The ending of a run, and the fault of an opening, by the status.
use Rattle.std.proofs.Common.{◌≡◌, ◌≢◌, ◌⊎◌, ℕ, ◌+◌, ◌^◌, IsTrue, length, Option, Some, None, inl, inr, refl, sym, ◌∙◌, ap, subst, arith}
use Rattle.ports.specs.Count.{Rose}
use Rattle.std.specs.Prelude.{◌≤◌}
use Rattle.std.specs.Bool.{MatchBool}
use Rattle.ports.specs.declared.Source.{Ghosts as SourceGhosts}
use Rattle.ports.specs.declared.Sink.{Ghosts as SinkGhosts}
use Rattle.page_disk.specs.declared.disk.Area.{Area}
use Rattle.page_disk.specs.declared.disk.Area.TheVariants.{Pages, Journal}
use Rattle.page_space.specs.Faults.{is_disk}
use Rattle.page_space.specs.declared.refusal.OpenFault.{OpenFault}
use Rattle.page_space.specs.declared.refusal.OpenFault.TheVariants as fault
use Rattle.row_machine.specs.Serving.{IsBetweenLines, IsFlushed, IsInputEnding}
use Rattle.row_machine.specs.declared.ending.Ending.{Ending}
use Rattle.row_machine.specs.declared.ending.Ending.TheVariants as ending
use Rattle.boxsum.specs.Ends.{ends_run, ends_scratch}
use Rattle.boxsum.specs.Ran.{HasPortCause}
use Rattle.boxsum.specs.Runs.{IsInputStatus}
use Rattle.boxsum.specs.Statuses.{status_of, status_of_fault}
use Rattle.boxsum.specs.declared.status.Status.{Status}
use Rattle.boxsum.specs.declared.status.Status.TheVariants.{Fine, Usage, NoWarehouse, AlreadyThere, ReadFault, WriteFault, DiskFault, NoMemory, Damaged, InputLimit, PageLimit, NoVersion}

abbrev pub ending_back : Status → Option Ending
ending_back Fine = Some ending.Fine
ending_back Usage = None
ending_back NoWarehouse = None
ending_back AlreadyThere = None
ending_back ReadFault = Some ending.ReadFault
ending_back WriteFault = Some ending.WriteFault
ending_back DiskFault = Some ending.DiskFault
ending_back NoMemory = Some ending.NoMemory
ending_back (Damaged area page) = Some (ending.Damaged page)
ending_back (InputLimit taken) = Some (ending.InputLimit taken)
ending_back (PageLimit allotted) = Some (ending.PageLimit allotted)
ending_back (NoVersion last) = None

ending_is_back : (e : Ending) → ending_back (status_of e) ≡ Some e
ending_is_back ending.Fine = refl
ending_is_back ending.ReadFault = refl
ending_is_back ending.WriteFault = refl
ending_is_back ending.NoMemory = refl
ending_is_back (ending.InputLimit taken) = refl
ending_is_back ending.DiskFault = refl
ending_is_back (ending.Damaged page) = refl
ending_is_back (ending.PageLimit allotted) = refl

abbrev pub fault_back : Status → Option OpenFault
fault_back Fine = None
fault_back Usage = None
fault_back NoWarehouse = Some fault.Empty
fault_back AlreadyThere = None
fault_back ReadFault = None
fault_back WriteFault = None
fault_back DiskFault = Some fault.Disk
fault_back NoMemory = Some fault.NoMemory
fault_back (Damaged Pages page) = Some (fault.Damaged page)
fault_back (Damaged Journal page) = Some (fault.BadJournal page)
fault_back (InputLimit taken) = None
fault_back (PageLimit allotted) = None
fault_back (NoVersion last) = None

fault_is_back : (f : OpenFault) → fault_back (status_of_fault f) ≡ Some f
fault_is_back fault.Disk = refl
fault_is_back fault.Empty = refl
fault_is_back (fault.Damaged page) = refl
fault_is_back fault.NoMemory = refl
fault_is_back (fault.BadJournal page) = refl

same_some : {A : Type 0} (a b : A) → Some a ≡ Some b → a ≡ b
same_some a b e = cc

some_is_not_none : {A : Type 0} (a : A) → Some a ≡ None → ⊥
some_is_not_none a e = cc

-- an ending has one status, and no two have the same
pub ending_of : (e e' : Ending) (s s' : Status) → s ≡ status_of e → s ≡ s' → ending_back s' ≡ Some e' → e ≡ e'
ending_of e e' s s' is so back = same_some e e' (sym (ending_is_back e) ∙ (ap ending_back (sym is ∙ so) ∙ back))

pub no_ending : (e : Ending) (s s' : Status) → s ≡ status_of e → s ≡ s' → ending_back s' ≡ None → ⊥
no_ending e s s' is so none = some_is_not_none e (sym (ending_is_back e) ∙ (ap ending_back (sym is ∙ so) ∙ none))

-- no ending names a page of the journal
pub no_journal : (e : Ending) (s : Status) (page : ℕ) → s ≡ status_of e → s ≡ Damaged Journal page → ⊥
no_journal ending.Fine s page is so = (let no : Fine ≡ Damaged Journal page = sym is ∙ so in cc)
no_journal ending.ReadFault s page is so = (let no : ReadFault ≡ Damaged Journal page = sym is ∙ so in cc)
no_journal ending.WriteFault s page is so = (let no : WriteFault ≡ Damaged Journal page = sym is ∙ so in cc)
no_journal ending.NoMemory s page is so = (let no : NoMemory ≡ Damaged Journal page = sym is ∙ so in cc)
no_journal (ending.InputLimit taken) s page is so = (let no : InputLimit taken ≡ Damaged Journal page = sym is ∙ so in cc)
no_journal ending.DiskFault s page is so = (let no : DiskFault ≡ Damaged Journal page = sym is ∙ so in cc)
no_journal (ending.Damaged p) s page is so = (let no : Damaged Pages p ≡ Damaged Journal page = sym is ∙ so in cc)
no_journal (ending.PageLimit allotted) s page is so = (let no : PageLimit allotted ≡ Damaged Journal page = sym is ∙ so in cc)

-- so has a fault
pub fault_of : (f f' : OpenFault) (s s' : Status) → s ≡ status_of_fault f → s ≡ s' → fault_back s' ≡ Some f' → f ≡ f'
fault_of f f' s s' is so back = same_some f f' (sym (fault_is_back f) ∙ (ap fault_back (sym is ∙ so) ∙ back))

pub no_fault : (f : OpenFault) (s s' : Status) → s ≡ status_of_fault f → s ≡ s' → fault_back s' ≡ None → ⊥
no_fault f s s' is so none = some_is_not_none f (sym (fault_is_back f) ∙ (ap fault_back (sym is ∙ so) ∙ none))

-- an opening is not ended by the input
pub no_input : (f : OpenFault) (s : Status) → s ≡ status_of_fault f → IsInputStatus s → ⊥
no_input f s is why = elim why [
  | inl so ↦ no_fault f s ReadFault is so refl
  | inr w ↦ no_fault f s (InputLimit w.0) is w.1 refl
]

-- where the input ended the run
pub input_ending : (e : Ending) (s : Status) → s ≡ status_of e → IsInputStatus s → IsInputEnding e
input_ending e s is why = elim why [
  | inl so ↦ subst (λ (x : Ending). IsInputEnding x) (sym (ending_of e ending.ReadFault s ReadFault is so refl)) tt
  | inr w ↦ subst (λ (x : Ending). IsInputEnding x) (sym (ending_of e (ending.InputLimit w.0) s (InputLimit w.0) is w.1 refl)) tt
]

-- such a run, and one that is fine, ends between two lines
input_between : (e : Ending) → IsInputEnding e → IsBetweenLines e
input_between ending.ReadFault i = tt
input_between (ending.InputLimit taken) i = tt
input_between ending.Fine i = absurd i
input_between ending.WriteFault i = absurd i
input_between ending.NoMemory i = absurd i
input_between ending.DiskFault i = absurd i
input_between (ending.Damaged page) i = absurd i
input_between (ending.PageLimit allotted) i = absurd i

pub ends_between : (e : Ending) (s : Status) → s ≡ status_of e → (s ≡ Fine) ⊎ IsInputStatus s → IsBetweenLines e
ends_between e s is why = elim why [
  | inl fine ↦ subst (λ (x : Ending). IsBetweenLines x) (sym (ending_of e ending.Fine s Fine is fine refl)) tt
  | inr input ↦ input_between e (input_ending e s is input)
]

pub input_flushes : (e : Ending) → IsInputEnding e → IsFlushed e
input_flushes ending.ReadFault i = tt
input_flushes (ending.InputLimit taken) i = tt
input_flushes ending.Fine i = absurd i
input_flushes ending.WriteFault i = absurd i
input_flushes ending.NoMemory i = absurd i
input_flushes ending.DiskFault i = absurd i
input_flushes (ending.Damaged page) i = absurd i
input_flushes (ending.PageLimit allotted) i = absurd i

-- only where the sink or the disk failed are replies lost
pub flushes : (e : Ending) (s : Status) → s ≡ status_of e → s ≢ WriteFault → s ≢ DiskFault → IsFlushed e
flushes ending.Fine s is sink disk = tt
flushes ending.ReadFault s is sink disk = tt
flushes ending.WriteFault s is sink disk = absurd (sink is)
flushes ending.NoMemory s is sink disk = tt
flushes (ending.InputLimit taken) s is sink disk = tt
flushes ending.DiskFault s is sink disk = absurd (disk is)
flushes (ending.Damaged page) s is sink disk = tt
flushes (ending.PageLimit allotted) s is sink disk = tt

-- which statuses there are
ends_run_so : (e : Ending) → IsTrue (ends_run (status_of e))
ends_run_so ending.Fine = refl
ends_run_so ending.ReadFault = refl
ends_run_so ending.WriteFault = refl
ends_run_so ending.NoMemory = refl
ends_run_so (ending.InputLimit taken) = refl
ends_run_so ending.DiskFault = refl
ends_run_so (ending.Damaged page) = refl
ends_run_so (ending.PageLimit allotted) = refl

pub run_ends : (e : Ending) (s : Status) → s ≡ status_of e → IsTrue (ends_run s)
run_ends e s is = subst (λ (x : Status). IsTrue (ends_run x)) (sym is) (ends_run_so e)

ends_scratch_so : (e : Ending) → (e ≡ ending.DiskFault → ⊥) → ((page : ℕ) → e ≡ ending.Damaged page → ⊥) → ((allotted : ℕ) → e ≡ ending.PageLimit allotted → ⊥) → IsTrue (ends_scratch (status_of e))
ends_scratch_so ending.Fine disk damaged limit = refl
ends_scratch_so ending.ReadFault disk damaged limit = refl
ends_scratch_so ending.WriteFault disk damaged limit = refl
ends_scratch_so ending.NoMemory disk damaged limit = refl
ends_scratch_so (ending.InputLimit taken) disk damaged limit = refl
ends_scratch_so ending.DiskFault disk damaged limit = absurd (disk refl)
ends_scratch_so (ending.Damaged page) disk damaged limit = absurd (damaged page refl)
ends_scratch_so (ending.PageLimit allotted) disk damaged limit = absurd (limit allotted refl)

pub scratch_ends : (e : Ending) (s : Status) → s ≡ status_of e → (e ≡ ending.DiskFault → ⊥) → ((page : ℕ) → e ≡ ending.Damaged page → ⊥) → ((allotted : ℕ) → e ≡ ending.PageLimit allotted → ⊥) → IsTrue (ends_scratch s)
scratch_ends e s is disk damaged limit = subst (λ (x : Status). IsTrue (ends_scratch x)) (sym is) (ends_scratch_so e disk damaged limit)

-- where nothing else can be
pub only_fine : (s : Status) → IsTrue (ends_run s) → s ≢ NoWarehouse → s ≢ ReadFault → s ≢ WriteFault → s ≢ DiskFault → ((area : Area) (page : ℕ) → s ≢ Damaged area page)
    → ((taken : ℕ) → s ≢ InputLimit taken) → ((allotted : ℕ) → s ≢ PageLimit allotted) → (s ≡ Fine) ⊎ (s ≡ NoMemory)
only_fine Fine ends empty read write disk damaged input limit = inl refl
only_fine Usage ends empty read write disk damaged input limit = absurd (cc)
only_fine NoWarehouse ends empty read write disk damaged input limit = absurd (empty refl)
only_fine AlreadyThere ends empty read write disk damaged input limit = absurd (cc)
only_fine ReadFault ends empty read write disk damaged input limit = absurd (read refl)
only_fine WriteFault ends empty read write disk damaged input limit = absurd (write refl)
only_fine DiskFault ends empty read write disk damaged input limit = absurd (disk refl)
only_fine NoMemory ends empty read write disk damaged input limit = inr refl
only_fine (Damaged area page) ends empty read write disk damaged input limit = absurd (damaged area page refl)
only_fine (InputLimit taken) ends empty read write disk damaged input limit = absurd (input taken refl)
only_fine (PageLimit allotted) ends empty read write disk damaged input limit = absurd (limit allotted refl)
only_fine (NoVersion last) ends empty read write disk damaged input limit = absurd (cc)

-- the count of faults where the device failed
pub rises : (f : OpenFault) (old new : ℕ) → MatchBool (is_disk f) (Rose old new × (old ≤ new)) (new ≡ old) → f ≡ fault.Disk → Rose old new
rises f old new rose is =
    let both : Rose old new × (old ≤ new) = subst (λ (x : OpenFault). MatchBool (is_disk x) (Rose old new × (old ≤ new)) (new ≡ old)) is rose in both.0

-- and it never falls
pub never_falls : (f : OpenFault) (old new : ℕ) → MatchBool (is_disk f) (Rose old new × (old ≤ new)) (new ≡ old) → old ≤ new
never_falls fault.Disk old new rose = rose.1
never_falls fault.Empty old new same = omega (arith, same)
never_falls (fault.Damaged page) old new same = omega (arith, same)
never_falls fault.NoMemory old new same = omega (arith, same)
never_falls (fault.BadJournal page) old new same = omega (arith, same)

-- the causes of an ending are those of its status
pub port_cause : {S K : Type 0} (s : SourceGhosts S) (k : SinkGhosts K) (source source' : S) (sink sink' : K) (e : Ending) (ended : Status) → ended ≡ status_of e
    → (e ≡ ending.ReadFault → Rose (s.faults source) (s.faults source')) → (e ≡ ending.WriteFault → Rose (k.faults sink) (k.faults sink'))
    → ((taken : ℕ) → e ≡ ending.InputLimit taken → (taken ≡ 2 ^ 40) × (IsTrue (s.tells source) → length (s.left source) ≡ 2 ^ 40 + length (s.left source')))
    → HasPortCause s k source source' sink sink' ended
port_cause s k source source' sink sink' e ended is read write limit = record {
  read_fault = λ so. read (ending_of e ending.ReadFault ended ReadFault is so refl);
  write_fault = λ so. write (ending_of e ending.WriteFault ended WriteFault is so refl);
  input_limit = λ taken so. limit taken (ending_of e (ending.InputLimit taken) ended (InputLimit taken) is so refl);
}
