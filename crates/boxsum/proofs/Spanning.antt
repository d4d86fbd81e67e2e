-- How a derivation of spans ends, told from its status, and what is left then.
use Rattle.std.proofs.Common.{◌≡◌, ◌≢◌, ◌⊎◌, ℕ, ◌<◌, true, false, IsTrue, List, Option, Some, None, inl, inr, refl, sym, ◌∙◌, ap, subst, arith}
use Rattle.ports.specs.Count.{Rose}
use Rattle.bw_types.specs.declared.params.Params.{Params}
use Rattle.ports.specs.Written.{WritesPart}
use Rattle.ports.specs.declared.Sink.{Ghosts as SinkGhosts}
use Rattle.page_layout.specs.declared.meta.Meta.{Meta}
use Rattle.page_space.specs.Faults.{AtBadJournal, AtDamaged, AtEmpty}
use Rattle.page_space.specs.Laws.{HeldOpens, HoldsOne}
use Rattle.page_space.specs.Settling.{IsBadAt}
use Rattle.redo_journal.specs.Gates.{is_empty}
use Rattle.page_disk.specs.Image.{Image}
use Rattle.page_disk.specs.declared.disk.Disk.{Ghosts as DiskGhosts}
use Rattle.page_disk.specs.declared.disk.Area.TheVariants.{Pages, Journal}
use Rattle.page_space.specs.declared.refusal.OpenFault.{OpenFault}
use Rattle.page_space.specs.declared.refusal.OpenFault.TheVariants as fault
use Rattle.page_warehouse.specs.Opened.{GoTogether, IsDamagedToOpen, IsNoWarehouseAt}
use Rattle.span_planes.specs.Made.{IsStillReady, second_out}
use Rattle.span_planes.specs.declared.making.Derived.{Derived}
use Rattle.span_planes.specs.declared.making.Derived.TheVariants as derived
use Rattle.boxsum.specs.Ends.{ends_spans}
use Rattle.boxsum.specs.Held.{ShowsWarehouse}
use Rattle.boxsum.specs.Printing.{EndsBy, PutsLine}
use Rattle.boxsum.specs.Spanning.{failure_of}
use Rattle.boxsum.specs.Statuses.{status_of_fault}
use Rattle.boxsum.specs.declared.status.Status.{Status}
use Rattle.boxsum.specs.declared.status.Status.TheVariants.{Fine, AlreadyThere, WriteFault, DiskFault, NoMemory, Damaged, PageLimit}
use Rattle.boxsum.proofs.Opened.{writes_nothing}

-- a disk that is as it was is still as ready for spans as it was
pub still_ready : (params : Params) (x : Image) → IsStillReady params x x
still_ready params x = record { alike = λ pages settles. settles; empty = λ none. inl none }

-- no page of a disk that shows a warehouse is the one for which it has none
no_warehouse_at : {D : Type 0} (d : DiskGhosts D) (disk : D) (dims : ℕ) (params : Params) (page : ℕ) → HoldsOne → ShowsWarehouse dims params (d.image disk) → IsNoWarehouseAt dims (d.image disk) page → ⊥
no_warehouse_at d disk dims params page one shows w =
    let same = one (d.image disk) params w.params shows.meta w.meta shows.pages w.pages shows.space w.space in
    elim w.at [
      | inl many ↦ (let few = shows.few in let less : dims < w.params.dims = many.1 in let it : params.dims ≡ w.params.dims = ap (λ (p : Params). p.dims) same.0 in omega (arith, few, less, it))
      | inr apart ↦ apart.2 (subst (λ (m : Meta). GoTogether w.params m) same.1 (subst (λ (p : Params). GoTogether p shows.meta) same.0 shows.together))
    ]

-- a disk that shows a warehouse is refused only where the device fails or there is no memory
pub shown_stopped : {D : Type 0} (d : DiskGhosts D) (disk : D) (dims : ℕ) (params : Params) (f : OpenFault) (s : Status) → HoldsOne → HeldOpens → IsTrue (d.tells disk) → ShowsWarehouse dims params (d.image disk)
    → AtEmpty f (IsTrue (d.tells disk) → is_empty (d.image disk) ≡ true) → AtBadJournal f (λ page. IsTrue (d.tells disk) → IsBadAt (d.image disk) page)
    → AtDamaged f (λ page. IsTrue (d.tells disk) → IsDamagedToOpen dims (d.image disk) page) → s ≡ status_of_fault f → (s ≡ DiskFault) ⊎ (s ≡ NoMemory)
shown_stopped d disk dims params fault.Disk s one opens told shows empty bad damaged is = inl is
shown_stopped d disk dims params fault.NoMemory s one opens told shows empty bad damaged is = inr is
shown_stopped d disk dims params fault.Empty s one opens told shows empty bad damaged is =
    absurd (let no : true ≡ false = sym (empty told) ∙ (opens (d.image disk) params shows.meta shows.pages shows.space).not_empty in cc)
shown_stopped d disk dims params (fault.BadJournal page) s one opens told shows empty bad damaged is =
    absurd ((opens (d.image disk) params shows.meta shows.pages shows.space).not_bad page (bad told))
shown_stopped d disk dims params (fault.Damaged page) s one opens told shows empty bad damaged is =
    absurd (elim (damaged told) [
      | inl w ↦ (opens (d.image disk) params shows.meta shows.pages shows.space).not_damaged page w
      | inr w ↦ no_warehouse_at d disk dims params page one shows w
    ])

-- an opening that is refused ends with one of the statuses
pub refused_may_end : (f : OpenFault) (s : Status) → s ≡ status_of_fault f → IsTrue (ends_spans s)
refused_may_end fault.Disk s is = subst (λ (t : Status). IsTrue (ends_spans t)) (sym is) refl
refused_may_end fault.Empty s is = subst (λ (t : Status). IsTrue (ends_spans t)) (sym is) refl
refused_may_end (fault.Damaged page) s is = subst (λ (t : Status). IsTrue (ends_spans t)) (sym is) refl
refused_may_end fault.NoMemory s is = subst (λ (t : Status). IsTrue (ends_spans t)) (sym is) refl
refused_may_end (fault.BadJournal page) s is = subst (λ (t : Status). IsTrue (ends_spans t)) (sym is) refl

module _ {K : Type 0} (k : SinkGhosts K) (before after : K) where
  -- the line is put with one of three statuses
  put_so : {P : Type 0} (line : List ℕ) (s : Status) → PutsLine k before after line s → (s ≡ Fine → P) → (s ≡ WriteFault → P) → (s ≡ NoMemory → P) → P
  put_so line s puts fine failed memory = elim puts.may_end [ inl e ↦ fine e | inr rest ↦ elim rest [ inl e ↦ failed e | inr e ↦ memory e ] ]

  -- unless the line was put, or a part of it, nothing was
  pub silent_by : (line : List ℕ) (o : Option Status) (s : Status) → EndsBy k before after line o s → s ≢ Fine → s ≢ WriteFault → after ≡ before
  silent_by line None s ends fine put = put_so line s ends (λ e. absurd (fine e)) (λ e. absurd (put e)) ends.silent
  silent_by line (Some failed) s ends fine put = ends.1

  -- a status with which no line is put is that of a failure
  pub failed_by : (line : List ℕ) (o : Option Status) (s t : Status) → EndsBy k before after line o s → s ≡ t → t ≢ Fine → t ≢ WriteFault → t ≢ NoMemory → o ≡ Some t
  failed_by line None s t ends so fine put memory = absurd (put_so line s ends (λ e. fine (sym so ∙ e)) (λ e. put (sym so ∙ e)) (λ e. memory (sym so ∙ e)))
  failed_by line (Some failed) s t ends so fine put memory = ap Some (sym ends.0 ∙ so)

  -- and one with which no failure ends is that of a line
  pub put_by : (line : List ℕ) (o : Option Status) (s t : Status) → EndsBy k before after line o s → s ≡ t → o ≢ Some t → (o ≡ None) × PutsLine k before after line s
  put_by line None s t ends so other = (refl, ends)
  put_by line (Some failed) s t ends so other = absurd (other (ap Some (sym ends.0 ∙ so)))

  -- a failure gives the status
  pub status_by : (line : List ℕ) (o : Option Status) (s t : Status) → EndsBy k before after line o s → o ≡ Some t → s ≡ t
  status_by line None s t ends so = cc
  status_by line (Some failed) s t ends so = ends.0 ∙ (let same : Some failed ≡ Some t = so in cc)

  -- what is printed is a part of the line
  pub part_by : (line text : List ℕ) (o : Option Status) (s : Status) → EndsBy k before after line o s → (o ≡ None → line ≡ text) → IsTrue (k.tells before) → IsTrue (k.tells after)
      → WritesPart (k.written before) (k.written after) text
  part_by line text None s ends is told still = subst (λ (t : List ℕ). WritesPart (k.written before) (k.written after) t) (is refl) (ends.part told still)
  part_by line text (Some failed) s ends is told still = subst (λ (a : K). WritesPart (k.written before) (k.written a) text) (sym ends.1) (writes_nothing (k.written before) text)

module _ {E : Type 0} where
  -- what became of the second disk, by its failure
  abbrev pub derived_back : E → Status → Option (Derived E)
  derived_back e AlreadyThere = Some (derived.AlreadyThere e)
  derived_back e (PageLimit allotted) = Some (derived.PageLimit e allotted)
  derived_back e (Damaged area page) = Some (derived.Damaged e page)
  derived_back e NoMemory = Some (derived.NoMemory e)
  derived_back e DiskFault = Some (derived.Disk e)
  derived_back e _ = None

  abbrev back_of : E → Option Status → Option (Derived E)
  back_of e None = None
  back_of e (Some failed) = derived_back e failed

  -- it is done, or this is what failed
  is_back : (r : Derived E) (failed : Status) → failure_of r ≡ Some failed → back_of (second_out r) (failure_of r) ≡ Some r
  is_back (derived.Done second version) failed so = cc
  is_back (derived.AlreadyThere second) failed so = refl
  is_back (derived.PageLimit second allotted) failed so = refl
  is_back (derived.Damaged second page) failed so = refl
  is_back (derived.NoMemory second) failed so = refl
  is_back (derived.Disk second) failed so = refl

  pub derived_of : (r r' : Derived E) (failed : Status) → failure_of r ≡ Some failed → derived_back (second_out r) failed ≡ Some r' → r ≡ r'
  derived_of r r' failed so back =
      let same : Some r ≡ Some r' = sym (is_back r failed so) ∙ (ap (back_of (second_out r)) so ∙ back) in cc

  -- nothing fails so
  pub no_failure : (r : Derived E) (failed : Status) → failure_of r ≡ Some failed → derived_back (second_out r) failed ≡ None → ⊥
  no_failure r failed so none = let no : Some r ≡ None = sym (is_back r failed so) ∙ (ap (back_of (second_out r)) so ∙ none) in cc

  -- where nothing failed it is done
  pub done_of : (r : Derived E) → failure_of r ≡ None → (version : ℕ) × (r ≡ derived.Done (second_out r) version)
  done_of (derived.Done second version) none = (version, refl)
  done_of (derived.AlreadyThere second) none = cc
  done_of (derived.PageLimit second allotted) none = cc
  done_of (derived.Damaged second page) none = cc
  done_of (derived.NoMemory second) none = cc
  done_of (derived.Disk second) none = cc

  -- which statuses there are
  pub failure_may_end : (r : Derived E) (failed : Status) → failure_of r ≡ Some failed → IsTrue (ends_spans failed)
  failure_may_end (derived.Done second version) failed so = cc
  failure_may_end (derived.AlreadyThere second) failed so = let same : AlreadyThere ≡ failed = cc in subst (λ (t : Status). IsTrue (ends_spans t)) same refl
  failure_may_end (derived.PageLimit second allotted) failed so = let same : (PageLimit allotted) ≡ failed = cc in subst (λ (t : Status). IsTrue (ends_spans t)) same refl
  failure_may_end (derived.Damaged second page) failed so = let same : (Damaged Pages page) ≡ failed = cc in subst (λ (t : Status). IsTrue (ends_spans t)) same refl
  failure_may_end (derived.NoMemory second) failed so = let same : NoMemory ≡ failed = cc in subst (λ (t : Status). IsTrue (ends_spans t)) same refl
  failure_may_end (derived.Disk second) failed so = let same : DiskFault ≡ failed = cc in subst (λ (t : Status). IsTrue (ends_spans t)) same refl

  -- no page of a journal fails
  pub no_journal_of : (r : Derived E) (page : ℕ) → failure_of r ≢ Some (Damaged Journal page)
  no_journal_of (derived.Done second version) page so = cc
  no_journal_of (derived.AlreadyThere second) page so = cc
  no_journal_of (derived.PageLimit second allotted) page so = cc
  no_journal_of (derived.Damaged second other) page so = (let no : Some (Damaged Pages other) ≡ Some (Damaged Journal page) = so in cc)
  no_journal_of (derived.NoMemory second) page so = cc
  no_journal_of (derived.Disk second) page so = cc

module _ {E K : Type 0} (k : SinkGhosts K) (before after : K) (line : List ℕ) (r : Derived E) (s : Status) (ends : EndsBy k before after line (failure_of r) s) where
  pub derived_may_end : IsTrue (ends_spans s)
  derived_may_end = by_failure (failure_of r) refl ends
    where
      by_failure : (o : Option Status) → failure_of r ≡ o → EndsBy k before after line o s → IsTrue (ends_spans s)
      by_failure None is end = put_so k before after line s end (λ e. subst (λ (t : Status). IsTrue (ends_spans t)) (sym e) refl) (λ e. subst (λ (t : Status). IsTrue (ends_spans t)) (sym e) refl) (λ e. subst (λ (t : Status). IsTrue (ends_spans t)) (sym e) refl)
      by_failure (Some failed) is end = subst (λ (t : Status). IsTrue (ends_spans t)) (sym end.0) (failure_may_end r failed is)

  -- with no fault and pages enough it is done, or there was no memory
  pub derived_complete : (Rose (k.faults before) (k.faults after) → ⊥) → s ≢ DiskFault → ((allotted : ℕ) → s ≢ PageLimit allotted) → ((e : E) → r ≢ derived.AlreadyThere e)
      → ((e : E) (page : ℕ) → r ≢ derived.Damaged e page) → (s ≡ Fine) ⊎ (s ≡ NoMemory)
  derived_complete calm disk limit there sound = by_case r refl ends
    where
      by_case : (q : Derived E) → r ≡ q → EndsBy k before after line (failure_of q) s → (s ≡ Fine) ⊎ (s ≡ NoMemory)
      by_case (derived.Done second version) is end = put_so k before after line s end (λ e. inl e) (λ e. absurd (calm (end.write_fault e))) (λ e. inr e)
      by_case (derived.AlreadyThere second) is end = absurd (there second is)
      by_case (derived.PageLimit second allotted) is end = absurd (limit allotted end.0)
      by_case (derived.Damaged second page) is end = absurd (sound second page is)
      by_case (derived.NoMemory second) is end = inr end.0
      by_case (derived.Disk second) is end = absurd (disk end.0)

  -- where nothing can be written, the second disk has something on it, or a disk failed, or there was no memory
  pub derived_there : ((e : E) (version : ℕ) → r ≢ derived.Done e version) → ((e : E) (allotted : ℕ) → r ≢ derived.PageLimit e allotted) → ((e : E) (page : ℕ) → r ≢ derived.Damaged e page)
      → (s ≡ AlreadyThere) ⊎ ((s ≡ DiskFault) ⊎ (s ≡ NoMemory))
  derived_there whole limit sound = by_case r refl ends
    where
      by_case : (q : Derived E) → r ≡ q → EndsBy k before after line (failure_of q) s → (s ≡ AlreadyThere) ⊎ ((s ≡ DiskFault) ⊎ (s ≡ NoMemory))
      by_case (derived.Done second version) is end = absurd (whole second version is)
      by_case (derived.AlreadyThere second) is end = inl end.0
      by_case (derived.PageLimit second allotted) is end = absurd (limit second allotted is)
      by_case (derived.Damaged second page) is end = absurd (sound second page is)
      by_case (derived.NoMemory second) is end = inr (inr end.0)
      by_case (derived.Disk second) is end = inr (inl end.0)

  -- where nothing failed the line was put, or that failed
  pub derived_put : s ≢ NoMemory → failure_of r ≡ None → (s ≡ Fine) ⊎ (s ≡ WriteFault)
  derived_put memory none = by_failure (failure_of r) none ends
    where
      by_failure : (o : Option Status) → o ≡ None → EndsBy k before after line o s → (s ≡ Fine) ⊎ (s ≡ WriteFault)
      by_failure None is end = put_so k before after line s end (λ e. inl e) (λ e. inr e) (λ e. absurd (memory e))
      by_failure (Some failed) is end = cc
