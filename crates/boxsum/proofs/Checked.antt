-- How a check ends, by what it found, and where there is no memory to read the words.
use Rattle.std.proofs.Common.{◌≡◌, ◌≢◌, ◌≤◌, ◌⊎◌, ℕ, true, IsTrue, List, length, Result, Ok, Err, inl, inr, refl, sym, ◌∙◌, ap, subst}
use Rattle.ports.specs.Count.{Rose}
use Rattle.bw_types.specs.History.{History, changes, last_version}
use Rattle.ports.specs.declared.Source.{Ghosts as SourceGhosts}
use Rattle.ports.specs.declared.Sink.{Ghosts as SinkGhosts}
use Rattle.dom_index.specs.declared.index.DomIndex.{Ghosts as IndexGhosts}
use Rattle.page_disk.specs.Image.{Image}
use Rattle.page_disk.specs.declared.disk.Disk.{Ghosts as DiskGhosts}
use Rattle.page_warehouse.specs.Laws.{HoldsOneHistory}
use Rattle.redo_journal.specs.Gates.{is_empty}
use Rattle.image_check.specs.Laws.{BrokenIsNo}
use Rattle.image_check.specs.Parts.{IsBrokenAt, IsGood}
use Rattle.image_check.specs.declared.verdict.Verdict.{Verdict}
use Rattle.image_check.specs.declared.verdict.Verdict.TheVariants as verdict
use Rattle.page_checks.specs.declared.fault.CheckFault.{CheckFault}
use Rattle.page_checks.specs.declared.fault.CheckFault.TheVariants as check_fault
use Rattle.boxsum.specs.Checking.{Checks, Prints, broken_line, good_line}
use Rattle.boxsum.specs.Printing.{PutsLine}
use Rattle.boxsum.specs.Ran.{CheckRan}
use Rattle.boxsum.specs.declared.status.Status.{Status}
use Rattle.boxsum.specs.declared.status.Status.TheVariants.{DiskFault, Fine, NoMemory, NoWarehouse, WriteFault}

module _ {D K X : Type 0} (d : DiskGhosts D) (k : SinkGhosts K) (i : IndexGhosts X) (disk : D) (sink : K) where
  pub no_check : Checks d k i disk sink sink (record { status = NoMemory; disk = disk })
  no_check = record {
    image = refl;
    moments = refl;
    empty = λ told none. inr (inr refl);
    empty_only = λ e. cc;
    says = λ why. elim why [ inl e ↦ cc | inr e ↦ cc ];
    form = λ why. elim why [ inl e ↦ cc | inr e ↦ cc ];
    silent = λ fine write. refl;
    good = λ params h held why. elim why [ inl e ↦ cc | inr e ↦ cc ];
    complete = λ calm other. inr (inr refl);
  }

  pub nothing_checked : {S : Type 0} (s : SourceGhosts S) (source : S) → CheckRan d s k i disk source source sink sink (record { status = NoMemory; disk = disk })
  nothing_checked s source = record { source_stays = refl; checks = no_check }

abbrev verdict_back : Result Verdict CheckFault → Verdict
verdict_back (Ok v) = v
verdict_back (Err fault) = verdict.Empty

-- A verdict that is the only one of an empty disk.
only_empty : (v : Verdict) → (◌≡◌ {A = Result Verdict CheckFault} (Ok v) (Ok verdict.Empty)) ⊎ (◌≡◌ {A = Result Verdict CheckFault} (Ok v) (Err check_fault.Disk)) → v ≡ verdict.Empty
only_empty v (inl e) = ap verdict_back e
only_empty v (inr e) = ap verdict_back e

pub good_is_full : (v : Verdict) (version rows : ℕ) → v ≡ verdict.Good version rows
    → (◌≡◌ {A = Result Verdict CheckFault} (Ok v) (Ok verdict.Empty)) ⊎ (◌≡◌ {A = Result Verdict CheckFault} (Ok v) (Err check_fault.Disk)) → ⊥
good_is_full v version rows is why = let no : verdict.Good version rows ≡ verdict.Empty = sym is ∙ only_empty v why in cc

pub broken_is_full : (v : Verdict) (part : ℕ) → v ≡ verdict.Broken part
    → (◌≡◌ {A = Result Verdict CheckFault} (Ok v) (Ok verdict.Empty)) ⊎ (◌≡◌ {A = Result Verdict CheckFault} (Ok v) (Err check_fault.Disk)) → ⊥
broken_is_full v part is why = let no : verdict.Broken part ≡ verdict.Empty = sym is ∙ only_empty v why in cc

-- A line was put, so the status is one of these.
module _ {K : Type 0} (k : SinkGhosts K) (sink sink' : K) (line : List ℕ) (s : Status) (puts : PutsLine k sink sink' line s) where
  never_without : s ≢ NoWarehouse
  never_without e = elim puts.may_end [
    | inl fine ↦ (let no : Fine ≡ NoWarehouse = sym fine ∙ e in cc)
    | inr other ↦ elim other [
      | inl write ↦ (let no : WriteFault ≡ NoWarehouse = sym write ∙ e in cc)
      | inr memory ↦ (let no : NoMemory ≡ NoWarehouse = sym memory ∙ e in cc)
    ]
  ]

  still : s ≢ Fine → s ≢ WriteFault → sink' ≡ sink
  still not_fine not_write = elim puts.may_end [
    | inl fine ↦ absurd (not_fine fine)
    | inr other ↦ elim other [ inl write ↦ absurd (not_write write) | inr memory ↦ puts.silent memory ]
  ]

  whole : (Rose (k.faults sink) (k.faults sink') → ⊥) → (s ≡ Fine) ⊎ ((s ≡ NoWarehouse) ⊎ (s ≡ NoMemory))
  whole calm = elim puts.may_end [
    | inl fine ↦ inl fine
    | inr other ↦ elim other [ inl write ↦ absurd (calm (puts.write_fault write)) | inr memory ↦ inr (inr memory) ]
  ]

module _ {D K X : Type 0} (d : DiskGhosts D) (k : SinkGhosts K) (i : IndexGhosts X) (disk after : D) (sink sink' : K)
    (image : d.image after ≡ d.image disk) (moments : d.moments after ≡ d.moments disk) where
  -- The disk was found to hold a history.
  pub checks_good : HoldsOneHistory i → (version rows : ℕ) (s : Status) → PutsLine k sink sink' (good_line version rows) s
      → (IsTrue (d.tells disk) → is_empty (d.image disk) ≡ true → ⊥) → (IsTrue (d.tells disk) → IsGood i (d.image disk) version rows)
      → Checks d k i disk sink sink' (record { status = s; disk = after })
  checks_good one version rows s puts full good = record {
    image = image;
    moments = moments;
    empty = λ told none. absurd (full told none);
    empty_only = λ e told. absurd (never_without k sink sink' (good_line version rows) s puts e);
    says = λ why told. inl (record {
      version = version;
      rows = rows;
      good = subst (λ (x : Image). IsGood i x version rows) (sym image) (good told);
      line = record { fine = puts.fine; part = puts.part };
    });
    form = λ why. inl (version, rows, record { fine = puts.fine; part = puts.part });
    silent = still k sink sink' (good_line version rows) s puts;
    good = λ params h held why.
        let found = good held.0 in
        let same : found.history ≡ h = (one (d.image disk) found.params params found.history h found.holds held.1).1 in
        subst (λ (g : History). Prints d k i disk sink sink' (record { status = s; disk = after }) (good_line (last_version g) (length (changes g)))) same
        (subst (λ (v : ℕ). Prints d k i disk sink sink' (record { status = s; disk = after }) (good_line v (length (changes found.history)))) found.last
        (subst (λ (r : ℕ). Prints d k i disk sink sink' (record { status = s; disk = after }) (good_line version r)) found.count (record { fine = puts.fine; part = puts.part })));
    complete = λ calm other. whole k sink sink' (good_line version rows) s puts calm;
  }

  -- A part of it was found to be broken.
  pub checks_broken : ((x : Image) → BrokenIsNo i x) → (part : ℕ) → (1 ≤ part) × (part ≤ 5) → (s : Status) → PutsLine k sink sink' (broken_line part) s
      → (IsTrue (d.tells disk) → is_empty (d.image disk) ≡ true → ⊥) → (IsTrue (d.tells disk) → IsBrokenAt i part (d.image disk))
      → Checks d k i disk sink sink' (record { status = s; disk = after })
  checks_broken law part five s puts full broken = record {
    image = image;
    moments = moments;
    empty = λ told none. absurd (full told none);
    empty_only = λ e told. absurd (never_without k sink sink' (broken_line part) s puts e);
    says = λ why told. inr (record {
      part = part;
      broken = subst (λ (x : Image). IsBrokenAt i part x) (sym image) (broken told);
      line = record { fine = puts.fine; part = puts.part };
    });
    form = λ why. inr (part, five.0, five.1, record { fine = puts.fine; part = puts.part });
    silent = still k sink sink' (broken_line part) s puts;
    good = λ params h held why. absurd ((law (d.image disk)).no part (broken held.0) (params, h, held.1));
    complete = λ calm other. whole k sink sink' (broken_line part) s puts calm;
  }

  -- It is empty.
  pub checks_nothing : (IsTrue (d.tells disk) → is_empty (d.image disk) ≡ true) → Checks d k i disk sink sink (record { status = NoWarehouse; disk = after })
  checks_nothing empty = record {
    image = image;
    moments = moments;
    empty = λ told none. inl refl;
    empty_only = λ e told. empty told;
    says = λ why. elim why [ inl e ↦ cc | inr e ↦ cc ];
    form = λ why. elim why [ inl e ↦ cc | inr e ↦ cc ];
    silent = λ fine write. refl;
    good = λ params h held why. elim why [ inl e ↦ cc | inr e ↦ cc ];
    complete = λ calm other. inr (inl refl);
  }

  -- The disk failed.
  pub checks_failed : Checks d k i disk sink sink (record { status = DiskFault; disk = after })
  checks_failed = record {
    image = image;
    moments = moments;
    empty = λ told none. inr (inl refl);
    empty_only = λ e told. cc;
    says = λ why. elim why [ inl e ↦ cc | inr e ↦ cc ];
    form = λ why. elim why [ inl e ↦ cc | inr e ↦ cc ];
    silent = λ fine write. refl;
    good = λ params h held why. elim why [ inl e ↦ cc | inr e ↦ cc ];
    complete = λ calm other. absurd (other refl);
  }

  -- There was no memory.
  pub checks_no_memory : Checks d k i disk sink sink (record { status = NoMemory; disk = after })
  checks_no_memory = record {
    image = image;
    moments = moments;
    empty = λ told none. inr (inr refl);
    empty_only = λ e told. cc;
    says = λ why. elim why [ inl e ↦ cc | inr e ↦ cc ];
    form = λ why. elim why [ inl e ↦ cc | inr e ↦ cc ];
    silent = λ fine write. refl;
    good = λ params h held why. elim why [ inl e ↦ cc | inr e ↦ cc ];
    complete = λ calm other. inr (inr refl);
  }
