-- How a compaction ends, told from its status, and what is left then.
use Rattle.std.proofs.Common.{◌≡◌, ◌≢◌, ◌⊎◌, ℕ, zero, suc, true, IsTrue, List, [], ◌∷◌, inl, inr, refl, sym, ◌∙◌, ap, subst}
use Rattle.ports.specs.Count.{Rose}
use Rattle.bw_types.specs.History.{History, last_version}
use Rattle.bw_types.specs.declared.params.Params.{Params}
use Rattle.ports.specs.declared.Sink.{Ghosts as SinkGhosts}
use Rattle.compact_store.specs.Compacted.{second_out}
use Rattle.compact_store.specs.declared.compacting.Compacted.{Compacted}
use Rattle.compact_store.specs.declared.compacting.Compacted.TheVariants as made
use Rattle.dom_index.specs.declared.index.DomIndex.{Ghosts as IndexGhosts}
use Rattle.page_disk.specs.declared.disk.Disk.{Ghosts as DiskGhosts}
use Rattle.page_disk.specs.declared.disk.Area.{Area}
use Rattle.page_disk.specs.declared.disk.Area.TheVariants.{Pages, Journal}
use Rattle.ports.specs.Written.{WritesPart}
use Rattle.boxsum.specs.Compacting.{EndsAs, PutsCompacted, compacted_line}
use Rattle.boxsum.specs.Ends.{ends_compact}
use Rattle.boxsum.specs.Ran.{WritesHistory, compacted_text}
use Rattle.boxsum.specs.Statuses.{status_of_fault}
use Rattle.page_space.specs.declared.refusal.OpenFault.{OpenFault}
use Rattle.page_space.specs.declared.refusal.OpenFault.TheVariants as fault
use Rattle.boxsum.specs.declared.status.Status.{Status}
use Rattle.boxsum.specs.declared.status.Status.TheVariants.{Fine, NoWarehouse, AlreadyThere, WriteFault, DiskFault, NoMemory, Damaged, PageLimit, NoVersion}
use Rattle.redo_journal.specs.Gates.{is_empty}
use Rattle.boxsum.proofs.Nothing.{nothing_left}
use Rattle.boxsum.proofs.Opened.{writes_nothing}

-- a history with so many versions
pub some_history : (n : ℕ) → (h : History) × (last_version h ≡ n)
some_history zero = ([], refl)
some_history (suc n) = (let rest = some_history n in ([] ∷ rest.0, ap suc rest.1))

-- no history is written where the second disk is not called
pub nothing_written : {D E K X : Type 0} (d : DiskGhosts D) (e : DiskGhosts E) (k : SinkGhosts K) (i : IndexGhosts X) (disk back : D) (second : E) (sink : K) (s : Status) (params : Params) (whole : History)
    → s ≢ Fine → s ≢ WriteFault → ((allotted : ℕ) → s ≢ PageLimit allotted) → IsTrue (e.tells second) → is_empty (e.image second) ≡ true
    → WritesHistory d e k i disk second sink sink (record { status = s; disk = back; second = second }) params whole
nothing_written d e k i disk back second sink s params whole fine put limit told none = record {
  done = λ why. absurd (elim why [ inl so ↦ fine so | inr so ↦ put so ]);
  fine = λ so. absurd (fine so);
  part = λ before still. writes_nothing (k.written sink) (compacted_text whole);
  stays = λ other. (told, inl none);
  moments = nothing_left _ (e.moments second);
  limit = λ allotted so. absurd (limit allotted so);
}

-- the line is put with one of three statuses
three : {P : Type 0} (s : Status) → (s ≡ Fine) ⊎ ((s ≡ WriteFault) ⊎ (s ≡ NoMemory)) → (s ≡ Fine → P) → (s ≡ WriteFault → P) → (s ≡ NoMemory → P) → P
three s why fine put memory = elim why [ inl e ↦ fine e | inr rest ↦ elim rest [ inl e ↦ put e | inr e ↦ memory e ] ]

-- an opening that is refused ends with one of the statuses
pub refused_may_end : (f : OpenFault) (s : Status) → s ≡ status_of_fault f → IsTrue (ends_compact s)
refused_may_end fault.Disk s is = subst (λ (t : Status). IsTrue (ends_compact t)) (sym is) refl
refused_may_end fault.Empty s is = subst (λ (t : Status). IsTrue (ends_compact t)) (sym is) refl
refused_may_end (fault.Damaged page) s is = subst (λ (t : Status). IsTrue (ends_compact t)) (sym is) refl
refused_may_end fault.NoMemory s is = subst (λ (t : Status). IsTrue (ends_compact t)) (sym is) refl
refused_may_end (fault.BadJournal page) s is = subst (λ (t : Status). IsTrue (ends_compact t)) (sym is) refl

module _ {E K : Type 0} (k : SinkGhosts K) (last : ℕ) (before after : K) where
  -- unless the line was put, or a part of it, nothing was
  pub silent_end : (r : Compacted E) (s : Status) → EndsAs k last before after r s → s ≢ Fine → s ≢ WriteFault → after ≡ before
  silent_end (made.Done second rows) s ends fine put = three s ends.may_end (λ e. absurd (fine e)) (λ e. absurd (put e)) ends.silent
  silent_end (made.NoVersion second version) s ends fine put = ends.1
  silent_end (made.AlreadyThere second) s ends fine put = ends.1
  silent_end (made.PageLimit second allotted) s ends fine put = ends.1
  silent_end (made.Damaged second page) s ends fine put = ends.1
  silent_end (made.NoMemory second) s ends fine put = ends.1
  silent_end (made.Disk second) s ends fine put = ends.1

  pub may_end : (r : Compacted E) (s : Status) → EndsAs k last before after r s → IsTrue (ends_compact s)
  may_end (made.Done second rows) s ends =
      three s ends.may_end (λ e. subst (λ (t : Status). IsTrue (ends_compact t)) (sym e) refl) (λ e. subst (λ (t : Status). IsTrue (ends_compact t)) (sym e) refl) (λ e. subst (λ (t : Status). IsTrue (ends_compact t)) (sym e) refl)
  may_end (made.NoVersion second version) s ends = subst (λ (t : Status). IsTrue (ends_compact t)) (sym ends.0) refl
  may_end (made.AlreadyThere second) s ends = subst (λ (t : Status). IsTrue (ends_compact t)) (sym ends.0) refl
  may_end (made.PageLimit second allotted) s ends = subst (λ (t : Status). IsTrue (ends_compact t)) (sym ends.0) refl
  may_end (made.Damaged second page) s ends = subst (λ (t : Status). IsTrue (ends_compact t)) (sym ends.0) refl
  may_end (made.NoMemory second) s ends = subst (λ (t : Status). IsTrue (ends_compact t)) (sym ends.0) refl
  may_end (made.Disk second) s ends = subst (λ (t : Status). IsTrue (ends_compact t)) (sym ends.0) refl

  -- a failed put is counted
  pub put_end : (r : Compacted E) (s : Status) → EndsAs k last before after r s → s ≡ WriteFault → Rose (k.faults before) (k.faults after)
  put_end (made.Done second rows) s ends e = ends.write_fault e
  put_end (made.NoVersion second version) s ends e = absurd (let no : WriteFault ≡ NoVersion version = sym e ∙ ends.0 in cc)
  put_end (made.AlreadyThere second) s ends e = absurd (let no : WriteFault ≡ AlreadyThere = sym e ∙ ends.0 in cc)
  put_end (made.PageLimit second allotted) s ends e = absurd (let no : WriteFault ≡ PageLimit allotted = sym e ∙ ends.0 in cc)
  put_end (made.Damaged second page) s ends e = absurd (let no : WriteFault ≡ Damaged Pages page = sym e ∙ ends.0 in cc)
  put_end (made.NoMemory second) s ends e = absurd (let no : WriteFault ≡ NoMemory = sym e ∙ ends.0 in cc)
  put_end (made.Disk second) s ends e = absurd (let no : WriteFault ≡ DiskFault = sym e ∙ ends.0 in cc)

  -- what became of the second disk, by a status that has one cause alone
  pub none_there : (r : Compacted E) (s : Status) (version : ℕ) → EndsAs k last before after r s → s ≡ NoVersion version → (e : E) × (r ≡ made.NoVersion e version)
  none_there (made.Done second rows) s version ends e = absurd (three s ends.may_end (λ f. let no : NoVersion version ≡ Fine = sym e ∙ f in cc) (λ f. let no : NoVersion version ≡ WriteFault = sym e ∙ f in cc) (λ f. let no : NoVersion version ≡ NoMemory = sym e ∙ f in cc))
  none_there (made.NoVersion second other) s version ends e = (second, let same : NoVersion other ≡ NoVersion version = sym ends.0 ∙ e in cc)
  none_there (made.AlreadyThere second) s version ends e = absurd (let no : NoVersion version ≡ AlreadyThere = sym e ∙ ends.0 in cc)
  none_there (made.PageLimit second allotted) s version ends e = absurd (let no : NoVersion version ≡ PageLimit allotted = sym e ∙ ends.0 in cc)
  none_there (made.Damaged second page) s version ends e = absurd (let no : NoVersion version ≡ Damaged Pages page = sym e ∙ ends.0 in cc)
  none_there (made.NoMemory second) s version ends e = absurd (let no : NoVersion version ≡ NoMemory = sym e ∙ ends.0 in cc)
  none_there (made.Disk second) s version ends e = absurd (let no : NoVersion version ≡ DiskFault = sym e ∙ ends.0 in cc)

  pub full_there : (r : Compacted E) (s : Status) → EndsAs k last before after r s → s ≡ AlreadyThere → (e : E) × (r ≡ made.AlreadyThere e)
  full_there (made.Done second rows) s ends e = absurd (three s ends.may_end (λ f. let no : AlreadyThere ≡ Fine = sym e ∙ f in cc) (λ f. let no : AlreadyThere ≡ WriteFault = sym e ∙ f in cc) (λ f. let no : AlreadyThere ≡ NoMemory = sym e ∙ f in cc))
  full_there (made.NoVersion second version) s ends e = absurd (let no : AlreadyThere ≡ NoVersion version = sym e ∙ ends.0 in cc)
  full_there (made.AlreadyThere second) s ends e = (second, refl)
  full_there (made.PageLimit second allotted) s ends e = absurd (let no : AlreadyThere ≡ PageLimit allotted = sym e ∙ ends.0 in cc)
  full_there (made.Damaged second page) s ends e = absurd (let no : AlreadyThere ≡ Damaged Pages page = sym e ∙ ends.0 in cc)
  full_there (made.NoMemory second) s ends e = absurd (let no : AlreadyThere ≡ NoMemory = sym e ∙ ends.0 in cc)
  full_there (made.Disk second) s ends e = absurd (let no : AlreadyThere ≡ DiskFault = sym e ∙ ends.0 in cc)

  pub failed : (r : Compacted E) (s : Status) → EndsAs k last before after r s → s ≡ DiskFault → r ≡ made.Disk (second_out r)
  failed (made.Done second rows) s ends e = absurd (three s ends.may_end (λ f. let no : DiskFault ≡ Fine = sym e ∙ f in cc) (λ f. let no : DiskFault ≡ WriteFault = sym e ∙ f in cc) (λ f. let no : DiskFault ≡ NoMemory = sym e ∙ f in cc))
  failed (made.NoVersion second version) s ends e = absurd (let no : DiskFault ≡ NoVersion version = sym e ∙ ends.0 in cc)
  failed (made.AlreadyThere second) s ends e = absurd (let no : DiskFault ≡ AlreadyThere = sym e ∙ ends.0 in cc)
  failed (made.PageLimit second allotted) s ends e = absurd (let no : DiskFault ≡ PageLimit allotted = sym e ∙ ends.0 in cc)
  failed (made.Damaged second page) s ends e = absurd (let no : DiskFault ≡ Damaged Pages page = sym e ∙ ends.0 in cc)
  failed (made.NoMemory second) s ends e = absurd (let no : DiskFault ≡ NoMemory = sym e ∙ ends.0 in cc)
  failed (made.Disk second) s ends e = refl

  -- where the disk failed the status says so
  pub fails : (r : Compacted E) (s : Status) (e : E) → EndsAs k last before after r s → r ≡ made.Disk e → s ≡ DiskFault
  fails r s e ends is = (subst (λ (q : Compacted E). EndsAs k last before after q s) is ends).0

  pub limited : (r : Compacted E) (s : Status) (allotted : ℕ) → EndsAs k last before after r s → s ≡ PageLimit allotted → r ≡ made.PageLimit (second_out r) allotted
  limited (made.Done second rows) s allotted ends e = absurd (three s ends.may_end (λ f. let no : PageLimit allotted ≡ Fine = sym e ∙ f in cc) (λ f. let no : PageLimit allotted ≡ WriteFault = sym e ∙ f in cc) (λ f. let no : PageLimit allotted ≡ NoMemory = sym e ∙ f in cc))
  limited (made.NoVersion second version) s allotted ends e = absurd (let no : PageLimit allotted ≡ NoVersion version = sym e ∙ ends.0 in cc)
  limited (made.AlreadyThere second) s allotted ends e = absurd (let no : PageLimit allotted ≡ AlreadyThere = sym e ∙ ends.0 in cc)
  limited (made.PageLimit second other) s allotted ends e = (let same : PageLimit other ≡ PageLimit allotted = sym ends.0 ∙ e in cc)
  limited (made.Damaged second page) s allotted ends e = absurd (let no : PageLimit allotted ≡ Damaged Pages page = sym e ∙ ends.0 in cc)
  limited (made.NoMemory second) s allotted ends e = absurd (let no : PageLimit allotted ≡ NoMemory = sym e ∙ ends.0 in cc)
  limited (made.Disk second) s allotted ends e = absurd (let no : PageLimit allotted ≡ DiskFault = sym e ∙ ends.0 in cc)

  pub damaged : (r : Compacted E) (s : Status) (area : Area) (page : ℕ) → EndsAs k last before after r s → s ≡ Damaged area page → r ≡ made.Damaged (second_out r) page
  damaged (made.Done second rows) s area page ends e = absurd (three s ends.may_end (λ f. let no : Damaged area page ≡ Fine = sym e ∙ f in cc) (λ f. let no : Damaged area page ≡ WriteFault = sym e ∙ f in cc) (λ f. let no : Damaged area page ≡ NoMemory = sym e ∙ f in cc))
  damaged (made.NoVersion second version) s area page ends e = absurd (let no : Damaged area page ≡ NoVersion version = sym e ∙ ends.0 in cc)
  damaged (made.AlreadyThere second) s area page ends e = absurd (let no : Damaged area page ≡ AlreadyThere = sym e ∙ ends.0 in cc)
  damaged (made.PageLimit second allotted) s area page ends e = absurd (let no : Damaged area page ≡ PageLimit allotted = sym e ∙ ends.0 in cc)
  damaged (made.Damaged second other) s area page ends e = (let same : Damaged Pages other ≡ Damaged area page = sym ends.0 ∙ e in cc)
  damaged (made.NoMemory second) s area page ends e = absurd (let no : Damaged area page ≡ NoMemory = sym e ∙ ends.0 in cc)
  damaged (made.Disk second) s area page ends e = absurd (let no : Damaged area page ≡ DiskFault = sym e ∙ ends.0 in cc)

  -- no page of a journal is named
  pub no_journal : (r : Compacted E) (s : Status) (page : ℕ) → EndsAs k last before after r s → s ≢ Damaged Journal page
  no_journal (made.Done second rows) s page ends e = three s ends.may_end (λ f. let no : Damaged Journal page ≡ Fine = sym e ∙ f in cc) (λ f. let no : Damaged Journal page ≡ WriteFault = sym e ∙ f in cc) (λ f. let no : Damaged Journal page ≡ NoMemory = sym e ∙ f in cc)
  no_journal (made.NoVersion second version) s page ends e = (let no : Damaged Journal page ≡ NoVersion version = sym e ∙ ends.0 in cc)
  no_journal (made.AlreadyThere second) s page ends e = (let no : Damaged Journal page ≡ AlreadyThere = sym e ∙ ends.0 in cc)
  no_journal (made.PageLimit second allotted) s page ends e = (let no : Damaged Journal page ≡ PageLimit allotted = sym e ∙ ends.0 in cc)
  no_journal (made.Damaged second other) s page ends e = (let no : Damaged Journal page ≡ Damaged Pages other = sym e ∙ ends.0 in cc)
  no_journal (made.NoMemory second) s page ends e = (let no : Damaged Journal page ≡ NoMemory = sym e ∙ ends.0 in cc)
  no_journal (made.Disk second) s page ends e = (let no : Damaged Journal page ≡ DiskFault = sym e ∙ ends.0 in cc)

  -- nor is there no warehouse
  pub no_empty : (r : Compacted E) (s : Status) → EndsAs k last before after r s → s ≢ NoWarehouse
  no_empty (made.Done second rows) s ends e = three s ends.may_end (λ f. let no : NoWarehouse ≡ Fine = sym e ∙ f in cc) (λ f. let no : NoWarehouse ≡ WriteFault = sym e ∙ f in cc) (λ f. let no : NoWarehouse ≡ NoMemory = sym e ∙ f in cc)
  no_empty (made.NoVersion second version) s ends e = (let no : NoWarehouse ≡ NoVersion version = sym e ∙ ends.0 in cc)
  no_empty (made.AlreadyThere second) s ends e = (let no : NoWarehouse ≡ AlreadyThere = sym e ∙ ends.0 in cc)
  no_empty (made.PageLimit second allotted) s ends e = (let no : NoWarehouse ≡ PageLimit allotted = sym e ∙ ends.0 in cc)
  no_empty (made.Damaged second page) s ends e = (let no : NoWarehouse ≡ Damaged Pages page = sym e ∙ ends.0 in cc)
  no_empty (made.NoMemory second) s ends e = (let no : NoWarehouse ≡ NoMemory = sym e ∙ ends.0 in cc)
  no_empty (made.Disk second) s ends e = (let no : NoWarehouse ≡ DiskFault = sym e ∙ ends.0 in cc)

  -- where nothing else can be, the second disk has something on it, or a disk failed
  pub full_end : (r : Compacted E) (s : Status) → EndsAs k last before after r s → ((e : E) (version : ℕ) → r ≢ made.NoVersion e version) → ((e : E) (rows : ℕ) → r ≢ made.Done e rows)
      → ((e : E) (allotted : ℕ) → r ≢ made.PageLimit e allotted) → ((e : E) (page : ℕ) → r ≢ made.Damaged e page) → ((e : E) → r ≢ made.NoMemory e)
      → (s ≡ AlreadyThere) ⊎ ((s ≡ DiskFault) ⊎ (s ≡ NoMemory))
  full_end (made.Done second rows) s ends version whole limit sound memory = absurd (whole second rows refl)
  full_end (made.NoVersion second other) s ends version whole limit sound memory = absurd (version second other refl)
  full_end (made.AlreadyThere second) s ends version whole limit sound memory = inl ends.0
  full_end (made.PageLimit second allotted) s ends version whole limit sound memory = absurd (limit second allotted refl)
  full_end (made.Damaged second page) s ends version whole limit sound memory = absurd (sound second page refl)
  full_end (made.NoMemory second) s ends version whole limit sound memory = absurd (memory second refl)
  full_end (made.Disk second) s ends version whole limit sound memory = inr (inl ends.0)

  -- where the line is put, the second disk has the whole
  pub done : (r : Compacted E) (s : Status) → EndsAs k last before after r s → (s ≡ Fine) ⊎ (s ≡ WriteFault) → (rows : ℕ) × ((r ≡ made.Done (second_out r) rows) × PutsCompacted k last before after rows s)
  done (made.Done second rows) s ends why = (rows, (refl, ends))
  done (made.NoVersion second version) s ends why = absurd (elim why [ inl e ↦ (let no : Fine ≡ NoVersion version = sym e ∙ ends.0 in cc) | inr e ↦ (let no : WriteFault ≡ NoVersion version = sym e ∙ ends.0 in cc) ])
  done (made.AlreadyThere second) s ends why = absurd (elim why [ inl e ↦ (let no : Fine ≡ AlreadyThere = sym e ∙ ends.0 in cc) | inr e ↦ (let no : WriteFault ≡ AlreadyThere = sym e ∙ ends.0 in cc) ])
  done (made.PageLimit second allotted) s ends why = absurd (elim why [ inl e ↦ (let no : Fine ≡ PageLimit allotted = sym e ∙ ends.0 in cc) | inr e ↦ (let no : WriteFault ≡ PageLimit allotted = sym e ∙ ends.0 in cc) ])
  done (made.Damaged second page) s ends why = absurd (elim why [ inl e ↦ (let no : Fine ≡ Damaged Pages page = sym e ∙ ends.0 in cc) | inr e ↦ (let no : WriteFault ≡ Damaged Pages page = sym e ∙ ends.0 in cc) ])
  done (made.NoMemory second) s ends why = absurd (elim why [ inl e ↦ (let no : Fine ≡ NoMemory = sym e ∙ ends.0 in cc) | inr e ↦ (let no : WriteFault ≡ NoMemory = sym e ∙ ends.0 in cc) ])
  done (made.Disk second) s ends why = absurd (elim why [ inl e ↦ (let no : Fine ≡ DiskFault = sym e ∙ ends.0 in cc) | inr e ↦ (let no : WriteFault ≡ DiskFault = sym e ∙ ends.0 in cc) ])

  -- what is printed is a part of the line, with whatever numbers the whole has
  pub part_end : (r : Compacted E) (s : Status) (text : List ℕ) → EndsAs k last before after r s → ((e : E) (rows : ℕ) → r ≡ made.Done e rows → compacted_line last rows ≡ text)
      → IsTrue (k.tells before) → IsTrue (k.tells after) → WritesPart (k.written before) (k.written after) text
  part_end (made.Done second rows) s text ends is told still = subst (λ (t : List ℕ). WritesPart (k.written before) (k.written after) t) (is second rows refl) (ends.part told still)
  part_end (made.NoVersion second version) s text ends is told still = subst (λ (a : K). WritesPart (k.written before) (k.written a) text) (sym ends.1) (writes_nothing (k.written before) text)
  part_end (made.AlreadyThere second) s text ends is told still = subst (λ (a : K). WritesPart (k.written before) (k.written a) text) (sym ends.1) (writes_nothing (k.written before) text)
  part_end (made.PageLimit second allotted) s text ends is told still = subst (λ (a : K). WritesPart (k.written before) (k.written a) text) (sym ends.1) (writes_nothing (k.written before) text)
  part_end (made.Damaged second page) s text ends is told still = subst (λ (a : K). WritesPart (k.written before) (k.written a) text) (sym ends.1) (writes_nothing (k.written before) text)
  part_end (made.NoMemory second) s text ends is told still = subst (λ (a : K). WritesPart (k.written before) (k.written a) text) (sym ends.1) (writes_nothing (k.written before) text)
  part_end (made.Disk second) s text ends is told still = subst (λ (a : K). WritesPart (k.written before) (k.written a) text) (sym ends.1) (writes_nothing (k.written before) text)

  -- with no fault and pages enough it is done, or there was no memory
  pub whole_end : (r : Compacted E) (s : Status) → EndsAs k last before after r s → (Rose (k.faults before) (k.faults after) → ⊥) → s ≢ DiskFault → ((allotted : ℕ) → s ≢ PageLimit allotted)
      → ((e : E) (version : ℕ) → r ≢ made.NoVersion e version) → ((e : E) → r ≢ made.AlreadyThere e) → ((e : E) (page : ℕ) → r ≢ made.Damaged e page) → (s ≡ Fine) ⊎ (s ≡ NoMemory)
  whole_end (made.Done second rows) s ends calm disk limit version there sound = three s ends.may_end (λ e. inl e) (λ e. absurd (calm (ends.write_fault e))) (λ e. inr e)
  whole_end (made.NoVersion second last') s ends calm disk limit version there sound = absurd (version second last' refl)
  whole_end (made.AlreadyThere second) s ends calm disk limit version there sound = absurd (there second refl)
  whole_end (made.PageLimit second allotted) s ends calm disk limit version there sound = absurd (limit allotted ends.0)
  whole_end (made.Damaged second page) s ends calm disk limit version there sound = absurd (sound second page refl)
  whole_end (made.NoMemory second) s ends calm disk limit version there sound = inr ends.0
  whole_end (made.Disk second) s ends calm disk limit version there sound = absurd (disk ends.0)
