-- The lines of a source were answered from what is on a disk, or that was refused.
use Rattle.std.proofs.Common.{◌≡◌, ◌≢◌, ◌⊎◌, ◌+◌, ◌≤◌, ◌<◌, ◌^◌, ℕ, IsTrue, List, [], length, inl, inr, refl, sym, ◌∙◌, ap, subst}
use Rattle.std.specs.Bool.{MatchBool}
use Rattle.ports.specs.Count.{Rose}
use Rattle.bw_types.specs.History.{History}
use Rattle.bw_types.specs.declared.params.Params.{Params}
use Rattle.ports.specs.declared.Source.{Ghosts as SourceGhosts}
use Rattle.ports.specs.declared.Sink.{Ghosts as SinkGhosts}
use Rattle.page_disk.specs.Image.{Image}
use Rattle.page_disk.specs.declared.disk.Disk.{Ghosts as DiskGhosts}
use Rattle.page_space.specs.Faults.{is_disk}
use Rattle.page_space.specs.Settling.{replay_reads}
use Rattle.page_space.specs.declared.refusal.OpenFault.{OpenFault}
use Rattle.page_space.specs.declared.refusal.OpenFault.TheVariants as fault
use Rattle.dom_index.specs.declared.index.DomIndex.{Ghosts as IndexGhosts}
use Rattle.row_machine.specs.Serving.{IsFlushed}
use Rattle.row_machine.specs.declared.ending.Ending.{Ending}
use Rattle.row_machine.specs.declared.ending.Ending.TheVariants as ending
use Rattle.boxsum.specs.Answering.{text_by}
use Rattle.boxsum.specs.Held.{Content}
use Rattle.boxsum.specs.Ran.{AnswersFrom, HasPortCause}
use Rattle.boxsum.specs.Statuses.{status_of, status_of_fault}
use Rattle.boxsum.specs.declared.status.Ran.{Ran}
use Rattle.boxsum.specs.declared.status.Status.{Status}
use Rattle.boxsum.specs.declared.status.Status.TheVariants as status
use Rattle.boxsum.proofs.AnsweredEach.{AnswersSource, answers_each, writes_text}
use Rattle.boxsum.proofs.Endings.{ending_of, no_ending, no_fault, no_journal}
use Rattle.boxsum.proofs.Nothing.{each_unread, text_unread}
use Rattle.boxsum.proofs.ReadsContent.{GivesBack, IsLeftAlike, IsNotEmptyAtFault, IsOpenedOver, IsRefusedWith, content_held, content_read, content_refused}

-- a disk that holds what is looked for is refused only where the device fails or there is no memory
stopped : (f : OpenFault) (s : Status) → s ≡ status_of_fault f → (f ≡ fault.Disk) ⊎ (f ≡ fault.NoMemory) → (s ≡ status.DiskFault) ⊎ (s ≡ status.NoMemory)
stopped f s is why = elim why [
  | inl disk ↦ inl (is ∙ ap status_of_fault disk)
  | inr memory ↦ inr (is ∙ ap status_of_fault memory)
]

module _ {D S K X : Type 0} (d : DiskGhosts D) (s : SourceGhosts S) (k : SinkGhosts K) (i : IndexGhosts X) (disk : D) (content : Content) (stands : Params → History → Image → Type 0)
    (reply : Params → History → ℕ → List ℕ → List ℕ) (cost : Params → History → List ℕ → ℕ) where
  -- the disk was refused
  pub answers_refused : (source : S) (sink : K) → IsNotEmptyAtFault content.fault → (f : OpenFault) (ran : Ran D) (is : ran.status ≡ status_of_fault f)
      → GivesBack content d disk ran.disk → IsRefusedWith content d disk f ran.disk
      → MatchBool (is_disk f) (Rose (d.faults disk) (d.faults ran.disk) × (d.faults disk ≤ d.faults ran.disk)) (d.faults ran.disk ≡ d.faults disk)
      → (IsTrue (d.tells disk) → (params : Params) (h : History) → stands params h (d.image disk) → (f ≡ fault.Disk) ⊎ (f ≡ fault.NoMemory))
      → (IsTrue (d.tells disk) → d.reads ran.disk ≤ d.reads disk + 4 + replay_reads (d.image disk))
      → AnswersFrom d s k i disk source source sink sink ran content stands reply cost
  answers_refused source sink made f ran is back refused faults sound most = record {
    nothing = λ told none. (refl, refl);
    reads = content_refused content d disk made f ran is back refused faults;
    answers = λ params h told held.
        let why = stopped f ran.status is (sound told params h held) in
        record {
          writes = text_unread s k source sink ran.status (text_by (reply params h)) why;
          answered = λ still. each_unread s k source sink ran.status (reply params h) (cost params h)
              (d.reads disk + 4 + replay_reads (d.image disk)) (d.reads ran.disk) why (most told);
        };
    at_end = λ fine told. absurd (no_fault f ran.status status.Fine is fine refl);
    surely = λ params h told held other x now.
        let calm : f ≢ fault.Disk = λ so. other (is ∙ ap status_of_fault so) in
        inr (subst (content.holds params h) (sym (refused.settled calm told x now)) (refused.kept calm told params h held));
  }

  -- it was opened, and the lines were answered
  pub answers_opened : (source source' : S) (sink sink' : K) (here after : D) → IsOpenedOver content d disk here → GivesBack content d disk here → IsLeftAlike content d disk here after
      → (e : Ending) (ended : Status) → ended ≡ status_of e
      → ((params : Params) (h : History) → IsTrue (d.tells disk) → stands params h (d.image disk) → IsTrue (s.tells source)
      → AnswersSource s k source source' sink sink' e (reply params h) (cost params h) (d.reads here) (d.reads after))
      → ((params : Params) (h : History) → IsTrue (d.tells disk) → stands params h (d.image disk) → (page : ℕ) → e ≢ ending.Damaged page)
      → (IsFlushed e → IsTrue (k.tells sink) → IsTrue (k.tells sink')) → HasPortCause s k source source' sink sink' ended
      → (e ≡ ending.Fine → IsTrue (s.tells source) → (s.left source' ≡ []) × (length (s.left source) < 2 ^ 40))
      → (IsTrue (d.tells disk) → d.reads here ≤ d.reads disk + 4 + replay_reads (d.image disk))
      → AnswersFrom d s k i disk source source' sink sink' (record { status = ended; disk = after }) content stands reply cost
  answers_opened source source' sink sink' here after opened back kept e ended is answered sound flushed causes to_end opening = record {
    nothing = λ told why. absurd (elim why [ inl none ↦ opened.made told none | inr none ↦ opened.some told none ]);
    reads = content_read content d disk here after opened back kept ended
        (λ so. no_ending e ended status.NoWarehouse is so refl) (λ page so. no_journal e ended page is so);
    answers = λ params h told held. record {
      writes = writes_text s k source source' sink sink' e ended is (reply params h) (cost params h) flushed _ _ (answered params h told held) (sound params h told held) causes;
      answered = λ still. answers_each s k source source' sink sink' e ended is (reply params h) (cost params h) flushed _ _ _ (opening told) (answered params h told held still);
    };
    at_end = λ fine told. to_end (ending_of e ending.Fine ended status.Fine is fine refl) told;
    surely = λ params h told held other x now. inr ((content_held content d disk here after opened back kept params h (told, held)).left x now);
  }
