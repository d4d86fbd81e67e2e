-- Where there is no memory to read the words, nothing is called; and where a disk is not opened, no line of the input is answered.
use Rattle.std.proofs.Common.{◌≡◌, ◌≢◌, ◌⊎◌, ◌≤◌, ℕ, List, [], inl, inr, refl, sym, ◌∙◌, subst, arith}
use Rattle.std.proofs.lemmas.List.{append-nil}
use Rattle.bw_types.specs.History.{History}
use Rattle.bw_types.specs.declared.params.Params.{Params}
use Rattle.ports.specs.declared.Source.{Ghosts as SourceGhosts}
use Rattle.ports.specs.declared.Sink.{Ghosts as SinkGhosts}
use Rattle.line_reader.specs.Lines.{lines}
use Rattle.csv_rows.specs.Machine.{after, text}
use Rattle.page_disk.specs.Moment.{Moment, clock_of}
use Rattle.page_disk.specs.Image.{Image}
use Rattle.page_disk.specs.Since.{LeavesOnly}
use Rattle.page_disk.specs.declared.disk.Disk.{Ghosts as DiskGhosts}
use Rattle.dom_index.specs.declared.index.DomIndex.{Ghosts as IndexGhosts}
use Rattle.row_machine.specs.Ended.{AfterGoesOn, SilentLinesKeep}
use Rattle.sample_rows.specs.Summary.{summary}
use Rattle.page_space.specs.Opened.{StaysAsRead}
use Rattle.grid_report.specs.GridCosts.{grid_line_cost}
use Rattle.grid_report.specs.GridReplies.{grid_replies}
use Rattle.page_warehouse.specs.Holds.{HoldsTrees}
use Rattle.span_planes.specs.SpanHolds.{SpanHolds}
use Rattle.span_planes.specs.SpanRows.{span_line_cost, span_reply}
use Rattle.boxsum.specs.Answering.{AnswersEach, text_by}
use Rattle.boxsum.specs.Held.{Content, all_spans, warehouses}
use Rattle.boxsum.specs.Ran.{Answers, AnswersFrom, AnswersFromNothing, CreateRan, HasPortCause, ReadsContent, ReadsToTheEnd, ReportRan, RunRan, Samples, SampleRan, ScratchRan, ServesInput, SpanRunRan, WritesText}
use Rattle.boxsum.specs.Runs.{IsInputStatus, history_by}
use Rattle.boxsum.specs.declared.status.Ran.{Ran}
use Rattle.boxsum.specs.declared.status.Status.{Status}
use Rattle.boxsum.specs.declared.status.Status.TheVariants.{Fine, DiskFault, NoMemory}
use Rattle.boxsum.proofs.Opened.{between_by, between_here, from_here, not_damaged, nothing_replied, only_memory, writes_nothing}
use Rattle.boxsum.proofs.Sampling.{no_summary}

-- want of memory does not come from the input
no_input_here : IsInputStatus NoMemory → ⊥
no_input_here why = elim why [ inl e ↦ cc | inr w ↦ (let e = w.1 in cc) ]

-- a run that the disk or the memory stopped is not fine, and its input did not end it
stopped_not_fine : (s : Status) → (s ≡ DiskFault) ⊎ (s ≡ NoMemory) → s ≢ Fine
stopped_not_fine s why fine = elim why [
  | inl disk ↦ (let no : DiskFault ≡ Fine = sym disk ∙ fine in cc)
  | inr memory ↦ (let no : NoMemory ≡ Fine = sym memory ∙ fine in cc)
]

stopped_not_input : (s : Status) → (s ≡ DiskFault) ⊎ (s ≡ NoMemory) → IsInputStatus s → ⊥
stopped_not_input s why input = elim why [
  | inl disk ↦ elim (subst (λ (x : Status). IsInputStatus x) disk input) [ inl e ↦ cc | inr w ↦ (let e = w.1 in cc) ]
  | inr memory ↦ no_input_here (subst (λ (x : Status). IsInputStatus x) memory input)
]

-- nothing more is left
pub nothing_left : (P : Image → Type 0) (moments : List Moment) → LeavesOnly P moments moments
nothing_left P moments = record { later = let n : ℕ = clock_of moments in omega arith; each = λ t x le left. inl left }

pub stays_read : {D : Type 0} (d : DiskGhosts D) (disk : D) → StaysAsRead d disk disk
stays_read d disk = record { image = refl; moments = nothing_left (λ x. x ≡ d.image disk) (d.moments disk) }

-- nothing is read
pub nothing_read : {D : Type 0} (content : Content) (d : DiskGhosts D) (disk : D) → ReadsContent d disk (record { status = NoMemory; disk = disk }) content
nothing_read content d disk = record {
  empty = λ told none. (stays_read d disk, inr (inr refl));
  empty_only = λ e. cc;
  bad_journal = λ page e. cc;
  refused = λ told none. record { cause = tt; moments = λ pages settles. nothing_left _ (d.moments disk); stands = λ other pages settled. settled; left = λ other x now. inl now };
  only_read = λ told. record { stays = λ pages settles other. settles; moments = λ pages settles. nothing_left _ (d.moments disk); untouched = λ calm. stays_read d disk };
  holds = λ params h held other. held;
  moments = λ params h held. nothing_left _ (d.moments disk);
}

module _ {S K : Type 0} (s : SourceGhosts S) (k : SinkGhosts K) (source : S) (sink : K) where
  abbrev pub nothing_served : (ended : Status) (params : Params) (h : History) → ended ≢ Fine → (IsInputStatus ended → ⊥)
      → ServesInput s k source source sink sink ended params h
  nothing_served ended params h fine input = record {
    served = [];
    cut_off = [];
    rest = lines (s.left source);
    cut = refl;
    one = omega arith;
    none_cut_off = λ ends. refl;
    all = λ e. absurd (fine e);
    whole_lines = λ why still. absurd (input why);
    read = λ still. record { taken = []; more = []; cut = refl; begins = refl };
    part = λ told still. writes_nothing (k.written sink) [];
    wrote = λ put disk told. (told, sym (append-nil (k.written sink)));
    put = λ told still. record { first = []; later = []; more = []; cut = refl; wrote = sym (append-nil (k.written sink)); last = inl (omega arith) };
  }

  -- where the disk failed or there was no memory before a line was taken
  pub text_unread : (ended : Status) (text_of : List ℕ → List ℕ) → (ended ≡ DiskFault) ⊎ (ended ≡ NoMemory) → WritesText s k source source sink sink ended text_of
  text_unread ended text_of why = record {
    fine = λ fine. absurd (stopped_not_fine ended why fine);
    part = λ told tells still. writes_nothing (k.written sink) (text_of (s.left source));
    whole_lines = λ input. absurd (stopped_not_input ended why input);
    undamaged = λ area page. not_damaged ended area page why;
    complete = λ told short calm quiet other limit. only_memory ended why other;
  }

  pub each_unread : (ended : Status) (reply : ℕ → List ℕ → List ℕ) (cost : List ℕ → ℕ) (first last : ℕ) → (ended ≡ DiskFault) ⊎ (ended ≡ NoMemory) → last ≤ first
      → AnswersEach reply cost (s.left source) (s.left source) (s.tells source) ended (k.tells sink) (k.tells sink) (k.written sink) (k.written sink) first last
  each_unread ended reply cost first last why few = record {
    answered = [];
    cut_off = [];
    rest = lines (s.left source);
    cut = refl;
    one = omega arith;
    none_cut_off = λ ends. refl;
    all = λ fine. absurd (stopped_not_fine ended why fine);
    whole_lines = λ input. absurd (stopped_not_input ended why input);
    read = λ still. record { taken = []; more = []; cut = refl; begins = refl };
    part = λ told still. writes_nothing (k.written sink) [];
    wrote = λ put disk told. (told, sym (append-nil (k.written sink)));
    most = omega (arith, few);
  }

  pub nothing_answered : (params : Params) (h : History) → Answers s k source source sink sink NoMemory params h
  nothing_answered params h = text_unread NoMemory (text params h) (inr refl)

  pub nothing_ends : ReadsToTheEnd s k source source sink sink NoMemory
  nothing_ends = λ e. cc

  pub nothing_caused : HasPortCause s k source source sink sink NoMemory
  nothing_caused = record { read_fault = λ e. cc; write_fault = λ e. cc; input_limit = λ taken e. cc }

  pub from_no_history : (params : Params) → AnswersFromNothing s k source source sink sink NoMemory params
  from_no_history params = record { answers = nothing_answered params []; at_end = nothing_ends; served = λ told. nothing_served NoMemory params [] (λ e. cc) no_input_here }

module _ {D K X : Type 0} (d : DiskGhosts D) (k : SinkGhosts K) (i : IndexGhosts X) (disk : D) (sink : K) where
  pub no_sample : (start count : ℕ) → Samples d k i disk sink sink (record { status = NoMemory; disk = disk }) start count
  no_sample start count = record {
    where_empty = record { there = λ told made. (stays_read d disk, inr (inr refl)); only = λ e. cc };
    fine = λ e. cc;
    part = λ told tells still. writes_nothing (k.written sink) (summary start count);
    silent = λ fine write. refl;
    form = λ told still. no_summary count (k.written sink);
    kept = λ e. cc;
    stays = λ told none other. (told, inl none);
    moments = λ told none. inl (nothing_left _ (d.moments disk));
    undamaged = λ area page told e. cc;
    limit = λ allotted told e. cc;
    enough_pages = λ allotted told few e. cc;
    complete = λ told none calm other limit. inr refl;
  }

module _ {D S K X : Type 0} (d : DiskGhosts D) (s : SourceGhosts S) (k : SinkGhosts K) (i : IndexGhosts X) (disk : D) (source : S) (sink : K) where
  -- how the call ends
  abbrev nothing_done : Ran D
  nothing_done = record { status = NoMemory; disk = disk }

  pub nothing_scratched : (params : Params) → ScratchRan d s k i disk source source sink sink nothing_done params
  nothing_scratched params = record { disk_stays = refl; answers = from_no_history s k source sink params }

  pub nothing_created : (params : Params) → CreateRan d s k i disk source source sink sink nothing_done params
  nothing_created params = record {
    untouched = (refl, refl);
    makes = record {
      where_empty = record { there = λ told made. (stays_read d disk, inr (inr refl)); only = λ e. cc };
      made = λ e. cc;
      moments = λ told none. nothing_left _ (d.moments disk);
      no_memory = λ e. refl;
      complete = λ told none other. inr refl;
    };
  }

  pub nothing_sampled : (start count : ℕ) → SampleRan d s k i disk source source sink sink nothing_done start count
  nothing_sampled start count = record { source_stays = refl; samples = no_sample d k i disk sink start count }

  pub nothing_run : SilentLinesKeep → AfterGoesOn → RunRan d s k i disk source source sink sink nothing_done
  nothing_run silent goes_on = record {
    empty = λ told none. ((refl, refl), stays_read d disk, inr (inr refl));
    empty_only = λ e. cc;
    refused = λ told none. ((refl, refl), record { cause = tt; moments = λ pages settles. nothing_left _ (d.moments disk); stands = λ other pages settled. settled; left = λ other x now. inl now });
    answers = λ params h b. nothing_answered s k source sink params h;
    at_end = nothing_ends s k source sink;
    history = λ params h held. record {
      kept = λ e. cc;
      whole_kept = λ taken why. absurd (no_input_here why);
      served = λ told. record {
        lines = nothing_served s k source sink NoMemory params h (λ e. cc) no_input_here;
        sure = h;
        which = inl refl;
        holds = λ other. held;
        surely = λ other x now. inl (inr refl, refl, now);
        left = λ x now. inl (inr refl, refl, now);
        moments = nothing_left _ (d.moments disk);
      };
      stays = λ told other. between_here i params h (after params h (s.left source)) (d.image disk) (goes_on params h (s.left source)) held.1;
      acknowledged = λ first told tells still r other.
          between_by i params h (history_by params h first) (after params h (s.left source)) (d.image disk)
          (nothing_replied silent params h (s.left source) (k.written sink) first r)
          (between_here i params h (after params h (s.left source)) (d.image disk) (goes_on params h (s.left source)) held.1);
      goes_on = λ other. (held.0, from_here i params h (d.image disk) held.1);
    };
    crashes = λ params h held. record {
      between = λ told. nothing_left _ (d.moments disk);
      acknowledged = λ first told tells still r some. absurd (some (inr refl) (nothing_replied silent params h (s.left source) (k.written sink) first r));
      goes_on = nothing_left _ (d.moments disk);
    };
    reads = λ params h held told may. record {
      reads = record { lines = nothing_served s k source sink NoMemory params h (λ e. cc) no_input_here; most = omega arith };
      stays = λ pages settles other. settles;
      moments = λ pages settles. nothing_left _ (d.moments disk);
      untouched = λ calm. stays_read d disk;
      unlimited = λ allotted e. cc;
    };
    pages = λ params h held. record { lacks = λ allotted e. cc; enough_pages = λ pages allotted told settles fits e. cc };
    at_limit = λ params meta pages allotted told space e. cc;
  }

  pub nothing_asked : (content : Content) (stands : Params → History → Image → Type 0) (reply : Params → History → ℕ → List ℕ → List ℕ) (cost : Params → History → List ℕ → ℕ)
      → AnswersFrom d s k i disk source source sink sink nothing_done content stands reply cost
  nothing_asked content stands reply cost = record {
    nothing = λ told none. (refl, refl);
    reads = nothing_read content d disk;
    answers = λ params h told held. record {
      writes = text_unread s k source sink NoMemory (text_by (reply params h)) (inr refl);
      answered = λ still. each_unread s k source sink NoMemory (reply params h) (cost params h) _ _ (inr refl) (omega arith);
    };
    at_end = nothing_ends s k source sink;
    surely = λ params h told held other x now. inl (refl, (refl, refl), now);
  }

  pub nothing_reported : ReportRan d s k i disk source source sink sink nothing_done
  nothing_reported = nothing_asked (warehouses i) (λ params h x. HoldsTrees i x params h) grid_replies (λ params h. grid_line_cost i.cost params h)

  pub nothing_spanned : SpanRunRan d s k i disk source source sink sink nothing_done
  nothing_spanned = record {
    answers = nothing_asked (all_spans i) (λ params h x. SpanHolds i x params h) span_reply (λ params h. span_line_cost i.cost params h);
    may_end = refl;
    causes = record { ports = nothing_caused s k source sink; disk_fault = λ e. cc };
    tells = refl;
    faults = omega arith;
  }
