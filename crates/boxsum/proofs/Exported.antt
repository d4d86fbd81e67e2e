-- An export: what is printed, what the disk keeps, and where there is no memory to read the words.
use Rattle.std.proofs.Common.{◌≡◌, ◌≢◌, ◌⊎◌, ℕ, IsTrue, List, [], ◌++◌, inl, inr, refl, sym, ◌∙◌}
use Rattle.std.proofs.lemmas.List.{append-nil}
use Rattle.ports.specs.declared.Source.{Ghosts as SourceGhosts}
use Rattle.ports.specs.declared.Sink.{Ghosts as SinkGhosts}
use Rattle.dom_index.specs.declared.index.DomIndex.{Ghosts as IndexGhosts}
use Rattle.history_text.specs.Rows.{rows_of}
use Rattle.page_disk.specs.declared.disk.Area.{Area}
use Rattle.page_disk.specs.declared.disk.Area.TheVariants.{Pages, Journal}
use Rattle.page_disk.specs.declared.disk.Disk.{Ghosts as DiskGhosts}
use Rattle.ports.specs.Written.{WritesPart}
use Rattle.boxsum.specs.Ends.{ends_export}
use Rattle.boxsum.specs.Held.{warehouses}
use Rattle.boxsum.specs.Ran.{ExportRan, Exports}
use Rattle.boxsum.specs.Statuses.{status_of_gathering}
use Rattle.page_warehouse.specs.declared.gathering.GatherFault.{GatherFault}
use Rattle.page_warehouse.specs.declared.gathering.GatherFault.TheVariants as gathering
use Rattle.boxsum.specs.declared.status.Status.{Status}
use Rattle.boxsum.specs.declared.status.Status.TheVariants.{Fine, Usage, NoWarehouse, AlreadyThere, ReadFault, WriteFault, DiskFault, NoMemory, Damaged, InputLimit, PageLimit, NoVersion}
use Rattle.boxsum.proofs.Nothing.{nothing_read}
use Rattle.boxsum.proofs.Opened.{writes_nothing}

-- the whole of a text is a part of it
pub whole_is_part : (before after bytes : List ℕ) → after ≡ before ++ bytes → WritesPart before after bytes
whole_is_part before after bytes e = record { out = bytes; rest = []; wrote = e; part = sym (append-nil bytes) }

-- where no page is damaged, the status names none
pub gathers_undamaged : (f : GatherFault) (s : Status) (area : Area) (page : ℕ) → s ≡ status_of_gathering f → ((p : ℕ) → f ≢ gathering.Damaged p) → s ≢ Damaged area page
gathers_undamaged gathering.Disk s area page is sound e = (let no : DiskFault ≡ Damaged area page = sym is ∙ e in cc)
gathers_undamaged (gathering.Damaged p) s area page is sound e = absurd (sound p refl)
gathers_undamaged gathering.NoMemory s area page is sound e = (let no : NoMemory ≡ Damaged area page = sym is ∙ e in cc)

-- nor the journal
pub gathers_pages : (f : GatherFault) (s : Status) (page : ℕ) → s ≡ status_of_gathering f → s ≢ Damaged Journal page
gathers_pages gathering.Disk s page is e = (let no : DiskFault ≡ Damaged Journal page = sym is ∙ e in cc)
gathers_pages (gathering.Damaged p) s page is e = (let no : Damaged Pages p ≡ Damaged Journal page = sym is ∙ e in cc)
gathers_pages gathering.NoMemory s page is e = (let no : NoMemory ≡ Damaged Journal page = sym is ∙ e in cc)

-- nothing is printed
pub gathers_nothing : (f : GatherFault) (s : Status) → s ≡ status_of_gathering f → (s ≢ Fine) × (s ≢ WriteFault)
gathers_nothing gathering.Disk s is = ((λ e. let no : DiskFault ≡ Fine = sym is ∙ e in cc), (λ e. let no : DiskFault ≡ WriteFault = sym is ∙ e in cc))
gathers_nothing (gathering.Damaged p) s is = ((λ e. let no : Damaged Pages p ≡ Fine = sym is ∙ e in cc), (λ e. let no : Damaged Pages p ≡ WriteFault = sym is ∙ e in cc))
gathers_nothing gathering.NoMemory s is = ((λ e. let no : NoMemory ≡ Fine = sym is ∙ e in cc), (λ e. let no : NoMemory ≡ WriteFault = sym is ∙ e in cc))

-- with no fault an export is fine, unless memory ran out
pub exports_whole : (s : Status) → IsTrue (ends_export s) → s ≢ NoWarehouse → s ≢ WriteFault → s ≢ DiskFault → ((area : Area) (page : ℕ) → s ≢ Damaged area page)
    → (s ≡ Fine) ⊎ (s ≡ NoMemory)
exports_whole Fine ends none put disk sound = inl refl
exports_whole Usage ends none put disk sound = absurd (cc)
exports_whole NoWarehouse ends none put disk sound = absurd (none refl)
exports_whole AlreadyThere ends none put disk sound = absurd (cc)
exports_whole ReadFault ends none put disk sound = absurd (cc)
exports_whole WriteFault ends none put disk sound = absurd (put refl)
exports_whole DiskFault ends none put disk sound = absurd (disk refl)
exports_whole NoMemory ends none put disk sound = inr refl
exports_whole (Damaged area page) ends none put disk sound = absurd (sound area page refl)
exports_whole (InputLimit taken) ends none put disk sound = absurd (cc)
exports_whole (PageLimit allotted) ends none put disk sound = absurd (cc)
exports_whole (NoVersion last) ends none put disk sound = absurd (cc)

module _ {D K X : Type 0} (d : DiskGhosts D) (k : SinkGhosts K) (i : IndexGhosts X) (disk : D) (sink : K) where
  pub no_export : Exports d k i disk sink sink (record { status = NoMemory; disk = disk })
  no_export = record {
    silent = λ fine write. refl;
    reads = nothing_read (warehouses i) d disk;
    prints = λ params h held. record {
      fine = λ e. cc;
      rebuilds = λ e. cc;
      part = λ tells still. writes_nothing (k.written sink) (rows_of params h);
      surely = λ why. elim why [ inl e ↦ cc | inr e ↦ cc ];
      undamaged = λ area page e. cc;
      complete = λ calm other. inr refl;
    };
    shown = λ params told shows. record { fine = λ e. cc; part = λ e. cc };
  }

  pub nothing_exported : {S : Type 0} (s : SourceGhosts S) (source : S) → ExportRan d s k i disk source source sink sink (record { status = NoMemory; disk = disk })
  nothing_exported s source = record { source_stays = refl; exports = no_export }
