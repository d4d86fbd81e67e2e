-- What a run of the program leaves behind, command by command.
use Rattle.std.specs.Prelude.{◌≡◌, ◌≢◌, ◌⊎◌, ℕ, ◌+◌, ◌<◌, ◌≤◌, ◌^◌, ◌++◌, List, [], Option, Some, None, Bool, true, false, IsTrue, drop, length}
use Rattle.ports.specs.Count.{Rose}
use Rattle.bw_types.specs.Answers.{answer}
use Rattle.bw_types.specs.History.{History, changes, last_version}
use Rattle.bw_types.specs.declared.params.Params.{Params}
use Rattle.bw_types.specs.declared.query.Query.{Query}
use Rattle.ports.specs.declared.Source.{Ghosts as SourceGhosts}
use Rattle.ports.specs.declared.Sink.{Ghosts as SinkGhosts}
use Rattle.line_reader.specs.Lines.{lines, whole_part}
use Rattle.csv_rows.specs.Machine.{after, begun, text}
use Rattle.command_words.specs.declared.command.Command.{Command}
use Rattle.command_words.specs.declared.command.Command.TheVariants as command
use Rattle.page_disk.specs.Image.{Image, PageList}
use Rattle.page_disk.specs.Moment.{MayBeLeftNow}
use Rattle.page_disk.specs.Since.{LeavesOnly}
use Rattle.page_disk.specs.declared.disk.Area.{Area}
use Rattle.page_disk.specs.declared.disk.Area.TheVariants.{Journal}
use Rattle.page_disk.specs.declared.disk.Disk.{Ghosts as DiskGhosts}
use Rattle.page_layout.specs.declared.meta.Meta.{Meta}
use Rattle.ports.specs.Pages.{PageMap}
use Rattle.page_space.specs.Opened.{StaysAsRead}
use Rattle.page_space.specs.Settling.{HasNoReplay, IsBadAt, replay_reads}
use Rattle.page_space.specs.Space.{HoldsSpace}
use Rattle.redo_journal.specs.Gates.{is_empty}
use Rattle.redo_journal.specs.Settled.{SettlesTo}
use Rattle.dom_index.specs.declared.index.DomIndex.{Ghosts as IndexGhosts}
use Rattle.page_warehouse.specs.Costs.{query_cost}
use Rattle.page_warehouse.specs.Holds.{Holds, HoldsTrees}
use Rattle.page_warehouse.specs.Needs.{batch_need, pages_charge}
use Rattle.page_warehouse.specs.Opened.{IsDamagedToOpen}
use Rattle.page_warehouse.specs.Shown.{HoldsHistory}
use Rattle.compact_store.specs.Compacted.{IsEmptyOrHoldsPart, LacksNext, batches_need}
use Rattle.compact_store.specs.Kept.{kept}
use Rattle.page_warehouse.specs.Told.{HasNumbersOf}
use Rattle.history_text.specs.Rebuilt.{Rebuilds}
use Rattle.history_text.specs.Rows.{rows_of}
use Rattle.ports.specs.Written.{WritesPart}
use Rattle.row_machine.specs.Serving.{lines_need}
use Rattle.sample_rows.specs.Generator.{rows}
use Rattle.sample_rows.specs.Summary.{WritesSummary, sample_history, sample_params, summary}
use Rattle.grid_report.specs.GridReplies.{grid_replies}
use Rattle.grid_report.specs.GridCosts.{grid_line_cost}
use Rattle.span_planes.specs.SpanHolds.{SpanHolds}
use Rattle.span_planes.specs.SpanRows.{span_line_cost, span_reply}
use Rattle.boxsum.specs.Answering.{AnswersEach, text_by}
use Rattle.boxsum.specs.Checking.{Checks}
use Rattle.boxsum.specs.Compacting.{compacted_line}
use Rattle.boxsum.specs.Ends as ends
use Rattle.boxsum.specs.Held.{BeginsWith, CommitsNothing, Content, HoldsBetween, HoldsFrom, HoldsSurely, IsEmptyOrHolds, IsEmptyOrPart, IsNoWarehouse, LeavesEach, MakesAndLoads, Refuses, ShowsWarehouse, all_spans, warehouses}
use Rattle.boxsum.specs.Runs.{AreReplied, IsInputStatus, LacksPagesAmid, LacksPagesNext, ReadsForLines, ServesLines, WritesWholeLines, history_by}
use Rattle.boxsum.specs.declared.status.Ran.{Ran}
use Rattle.boxsum.specs.declared.status.RanTwo.{RanTwo}
use Rattle.boxsum.specs.declared.status.Status.{Status}
use Rattle.boxsum.specs.declared.status.Status.TheVariants as status

-- what became of the first of two disks
abbrev pub first_of : {D E : Type 0} → RanTwo D E → Ran D
first_of ran = record { status = ran.status; disk = ran.disk }

-- and what of the second
abbrev pub second_of : {D E : Type 0} → RanTwo D E → Ran E
second_of ran = record { status = ran.status; disk = ran.second }

-- Neither the source nor the sink was called.
abbrev pub Untouched : {S K : Type 0} → S → S → K → K → Type 0
Untouched source source' sink sink' = (source' ≡ source) × (sink' ≡ sink)

-- What is read and printed.
module _ {S K : Type 0} (s : SourceGhosts S) (k : SinkGhosts K) (source source' : S) (sink sink' : K) (ended : Status) where
  -- The lines of the source were answered: this function tells what is to be written for an input.
  pub record WritesText (text_of : List ℕ → List ℕ) : Type 0 where
    -- The whole text is written.
    pub fine : ended ≡ status.Fine → IsTrue (s.tells source) → IsTrue (k.tells sink)
        → IsTrue (k.tells sink') × (k.written sink' ≡ k.written sink ++ text_of (s.left source))
    -- Where the run ends early it is a part of the text; where the input ends it, that of all whole lines that were taken.
    pub part : IsTrue (s.tells source) → IsTrue (k.tells sink) → IsTrue (k.tells sink')
        → WritesPart (k.written sink) (k.written sink') (text_of (s.left source))
    pub whole_lines : IsInputStatus ended → IsTrue (s.tells source) → IsTrue (s.tells source') → IsTrue (k.tells sink)
        → IsTrue (k.tells sink') × WritesWholeLines text_of (s.left source) (s.left source') (k.written sink) (k.written sink')
    pub undamaged : (area : Area) (page : ℕ) → ended ≢ status.Damaged area page
    -- With no fault, pages enough and ample memory the run is fine.
    pub complete : IsTrue (s.tells source) → length (s.left source) < 2 ^ 40
        → (Rose (s.faults source) (s.faults source') → ⊥) → (Rose (k.faults sink) (k.faults sink') → ⊥)
        → ended ≢ status.DiskFault → ((allotted : ℕ) → ended ≢ status.PageLimit allotted)
        → (ended ≡ status.Fine) ⊎ (ended ≡ status.NoMemory)

  -- The rows of the source were answered from this history on.
  abbrev pub Answers : Params → History → Type 0
  Answers params h = WritesText (text params h)

  -- Where the run is fine the input was read to its end, and was no longer than it may be.
  abbrev pub ReadsToTheEnd : Type 0
  ReadsToTheEnd = ended ≡ status.Fine → IsTrue (s.tells source) → (s.left source' ≡ []) × (length (s.left source) < 2 ^ 40)

  -- These lines of the input were carried out.
  abbrev pub ServesInput : Params → History → Type 0
  ServesInput params h = ServesLines params h (s.left source) (s.left source') (s.tells source') ended (k.tells sink) (k.tells sink') (k.written sink) (k.written sink')

  -- What source and sink have to do with a status.
  pub record HasPortCause : Type 0 where
    pub read_fault : ended ≡ status.ReadFault → Rose (s.faults source) (s.faults source')
    pub write_fault : ended ≡ status.WriteFault → Rose (k.faults sink) (k.faults sink')
    pub input_limit : (taken : ℕ) → ended ≡ status.InputLimit taken → (taken ≡ 2 ^ 40)
        × (IsTrue (s.tells source) → length (s.left source) ≡ 2 ^ 40 + length (s.left source'))

  -- Rows were answered over a history in memory, which began empty.
  pub record AnswersFromNothing (params : Params) : Type 0 where
    pub answers : Answers params []
    pub at_end : ReadsToTheEnd
    pub served : IsTrue (s.tells source) → ServesInput params []

-- How a warehouse is made.
module _ {D : Type 0} (d : DiskGhosts D) (disk : D) (ran : Ran D) where
  -- It is made on an empty disk, and on no other.
  pub record MakesWhereEmpty : Type 0 where
    pub there : IsTrue (d.tells disk) → is_empty (d.image disk) ≡ false → StaysAsRead d disk ran.disk
        × ((ran.status ≡ status.AlreadyThere) ⊎ ((ran.status ≡ status.DiskFault) ⊎ (ran.status ≡ status.NoMemory)))
    pub only : ran.status ≡ status.AlreadyThere → IsTrue (d.tells disk) → is_empty (d.image disk) ≡ false

  -- An empty warehouse was made on the disk.
  pub record MakesEmpty {X : Type 0} (i : IndexGhosts X) (params : Params) : Type 0 where
    pub where_empty : MakesWhereEmpty
    pub made : ran.status ≡ status.Fine → IsTrue (d.tells disk) → (is_empty (d.image disk) ≡ true) × HoldsSurely d i params [] ran.disk
    -- A stop at any moment leaves what might have been left before, no warehouse, or the new one.
    pub moments : IsTrue (d.tells disk) → is_empty (d.image disk) ≡ true → LeavesOnly (IsEmptyOrHolds i params []) (d.moments disk) (d.moments ran.disk)
    -- Memory is wanted before the disk is called.
    pub no_memory : ran.status ≡ status.NoMemory → ran.disk ≡ disk
    pub complete : IsTrue (d.tells disk) → is_empty (d.image disk) ≡ true → ran.status ≢ status.DiskFault
        → (ran.status ≡ status.Fine) ⊎ (ran.status ≡ status.NoMemory)

-- A sample.
module _ {D K X : Type 0} (d : DiskGhosts D) (k : SinkGhosts K) (i : IndexGhosts X) (disk : D) (sink sink' : K) (ran : Ran D) where
  -- A warehouse was made, rows that are drawn were loaded, and a summary of their answers was written.
  pub record Samples (start count : ℕ) : Type 0 where
    pub where_empty : MakesWhereEmpty d disk ran
    pub fine : ran.status ≡ status.Fine → IsTrue (d.tells disk) → IsTrue (k.tells sink)
        → IsTrue (k.tells sink') × (k.written sink' ≡ k.written sink ++ summary start count)
    pub part : IsTrue (d.tells disk) → IsTrue (k.tells sink) → IsTrue (k.tells sink') → WritesPart (k.written sink) (k.written sink') (summary start count)
    -- Whatever the disk tells: nothing, or the summary with some total, or a part of it.
    pub silent : ran.status ≢ status.Fine → ran.status ≢ status.WriteFault → sink' ≡ sink
    pub form : IsTrue (k.tells sink) → IsTrue (k.tells sink') → WritesSummary count (k.written sink) (k.written sink')
    pub kept : ran.status ≡ status.Fine → IsTrue (d.tells disk)
        → (is_empty (d.image disk) ≡ true) × HoldsSurely d i sample_params (sample_history start count) ran.disk
    pub stays : IsTrue (d.tells disk) → is_empty (d.image disk) ≡ true → ran.status ≢ status.DiskFault
        → IsTrue (d.tells ran.disk) × IsEmptyOrPart i sample_params (sample_history start count) (d.image ran.disk)
    -- A stop while the warehouse is made leaves what might have been left before, no warehouse or a new one, and later one with a part of
    -- the sample.
    pub moments : IsTrue (d.tells disk) → is_empty (d.image disk) ≡ true
        → MakesAndLoads i sample_params (sample_history start count) (d.moments disk) (d.moments ran.disk)
    pub undamaged : (area : Area) (page : ℕ) → IsTrue (d.tells disk) → ran.status ≢ status.Damaged area page
    pub limit : (allotted : ℕ) → IsTrue (d.tells disk) → ran.status ≡ status.PageLimit allotted
        → LacksPagesAmid i sample_params [] (rows start count) (d.image ran.disk) allotted
    pub enough_pages : (allotted : ℕ) → IsTrue (d.tells disk)
        → 3 + lines_need batch_need sample_params 1 (begun []) (lines (rows start count)) ≤ sample_params.pages → ran.status ≢ status.PageLimit allotted
    pub complete : IsTrue (d.tells disk) → is_empty (d.image disk) ≡ true → (Rose (k.faults sink) (k.faults sink') → ⊥)
        → ran.status ≢ status.DiskFault → ((allotted : ℕ) → ran.status ≢ status.PageLimit allotted)
        → (ran.status ≡ status.Fine) ⊎ (ran.status ≡ status.NoMemory)

-- A command that reads a disk.
module _ {D : Type 0} (d : DiskGhosts D) (disk : D) (ran : Ran D) where
  -- The disk did not end the command by a failure of its own.
  abbrev pub DidNotFail : Type 0
  DidNotFail = ran.status ≡ status.DiskFault → Rose (d.faults disk) (d.faults ran.disk) → ⊥

  -- The disk stands for the pages that it stood for, and so does each image that a stop at any moment leaves beside what might have been left
  -- before. Where no commit that was cut off is put in its place, nothing is written.
  pub record IsOnlyRead : Type 0 where
    pub stays : (pages : PageList) → SettlesTo (d.image disk) pages → DidNotFail → SettlesTo (d.image ran.disk) pages
    pub moments : (pages : PageList) → SettlesTo (d.image disk) pages → LeavesOnly (λ x. SettlesTo x pages) (d.moments disk) (d.moments ran.disk)
    pub untouched : HasNoReplay (d.image disk) → StaysAsRead d disk ran.disk

  -- Where the disk has nothing of the kind there is nothing to read. What is there stays.
  pub record ReadsContent (content : Content) : Type 0 where
    pub empty : IsTrue (d.tells disk) → is_empty (d.image disk) ≡ true → StaysAsRead d disk ran.disk
        × ((ran.status ≡ status.NoWarehouse) ⊎ ((ran.status ≡ status.DiskFault) ⊎ (ran.status ≡ status.NoMemory)))
    pub empty_only : ran.status ≡ status.NoWarehouse → IsTrue (d.tells disk) → is_empty (d.image disk) ≡ true
    pub refused : IsTrue (d.tells disk) → content.none (d.image disk) → Refuses d content.fault disk ran
    pub bad_journal : (page : ℕ) → ran.status ≡ status.Damaged Journal page → IsTrue (d.tells disk) → IsBadAt (d.image disk) page
    pub only_read : IsTrue (d.tells disk) → IsOnlyRead
    -- What it holds is there at each moment.
    pub holds : (params : Params) (h : History) → IsTrue (d.tells disk) × content.holds params h (d.image disk) → DidNotFail
        → IsTrue (d.tells ran.disk) × content.holds params h (d.image ran.disk)
    pub moments : (params : Params) (h : History) → IsTrue (d.tells disk) × content.holds params h (d.image disk)
        → LeavesOnly (content.holds params h) (d.moments disk) (d.moments ran.disk)

-- The warehouse on a disk was read.
abbrev pub ReadsWarehouse : {D X : Type 0} → DiskGhosts D → IndexGhosts X → D → Ran D → Type 0
ReadsWarehouse d i disk ran = ReadsContent d disk ran (warehouses i)

-- What an export prints of a disk that shows a warehouse with this meta page, whatever history it holds or none.
module _ {K : Type 0} (k : SinkGhosts K) (sink sink' : K) (ended : Status) where
  -- The rows of some history with the numbers of that page are printed, or a part of them.
  pub record PrintsSome (params : Params) (meta : Meta) : Type 0 where
    pub fine : ended ≡ status.Fine → IsTrue (k.tells sink) → IsTrue (k.tells sink') × ((h : History) × HasNumbersOf meta h × (k.written sink' ≡ k.written sink ++ rows_of params h))
    pub part : ended ≡ status.WriteFault → IsTrue (k.tells sink) → IsTrue (k.tells sink') → (h : History) × HasNumbersOf meta h × WritesPart (k.written sink) (k.written sink') (rows_of params h)

-- An export.
module _ {D K X : Type 0} (d : DiskGhosts D) (k : SinkGhosts K) (i : IndexGhosts X) (disk : D) (sink sink' : K) (ran : Ran D) where
  -- What is printed of a disk that holds this history, and what it holds then.
  pub record PrintsRows (params : Params) (h : History) : Type 0 where
    -- All rows of the history are printed; where the export ends early, a part of them.
    pub fine : ran.status ≡ status.Fine → IsTrue (k.tells sink) → IsTrue (k.tells sink') × (k.written sink' ≡ k.written sink ++ rows_of params h)
    pub part : IsTrue (k.tells sink) → IsTrue (k.tells sink') → WritesPart (k.written sink) (k.written sink') (rows_of params h)
    -- Read on an empty history with the same params, these rows make this history, and each of its batches is accepted.
    pub rebuilds : ran.status ≡ status.Fine → Rebuilds params h
    -- A crash now leaves the history.
    pub surely : (ran.status ≡ status.Fine) ⊎ (ran.status ≡ status.WriteFault) → HoldsSurely d i params h ran.disk
    pub undamaged : (area : Area) (page : ℕ) → ran.status ≢ status.Damaged area page
    -- With no fault and ample memory the export is fine.
    pub complete : (Rose (k.faults sink) (k.faults sink') → ⊥) → ran.status ≢ status.DiskFault → (ran.status ≡ status.Fine) ⊎ (ran.status ≡ status.NoMemory)

  -- The history of the warehouse on the disk was printed, as rows that rebuild it.
  pub record Exports : Type 0 where
    -- Where it ends otherwise nothing is printed.
    pub silent : ran.status ≢ status.Fine → ran.status ≢ status.WriteFault → sink' ≡ sink
    pub reads : ReadsWarehouse d i disk ran
    pub prints : (params : Params) (h : History) → HoldsHistory d i true disk params h → PrintsRows params h
    pub shown : (params : Params) → IsTrue (d.tells disk) → (shows : ShowsWarehouse i.DIMS params (d.image disk)) → PrintsSome k sink sink' ran.status params shows.meta

-- what is printed of a compaction, by the history that is kept
abbrev pub compacted_text : History → List ℕ
compacted_text h = compacted_line (last_version h) (length (changes h))

-- A compaction.
module _ {D E K X : Type 0} (d : DiskGhosts D) (e : DiskGhosts E) (k : SinkGhosts K) (i : IndexGhosts X) (disk : D) (second : E) (sink sink' : K) (ran : RanTwo D E) where
  -- What is left on an empty second disk, and printed, where this history is written to it.
  pub record WritesHistory (params : Params) (whole : History) : Type 0 where
    -- The second disk holds the history, and a crash now leaves it.
    pub done : (ran.status ≡ status.Fine) ⊎ (ran.status ≡ status.WriteFault) → HoldsSurely e i params whole ran.second
    pub fine : ran.status ≡ status.Fine → IsTrue (k.tells sink) → IsTrue (k.tells sink') × (k.written sink' ≡ k.written sink ++ compacted_text whole)
    pub part : IsTrue (k.tells sink) → IsTrue (k.tells sink') → WritesPart (k.written sink) (k.written sink') (compacted_text whole)
    -- However it ends, it is empty or holds a first part of that, and a stop at any moment leaves no more than that.
    pub stays : ran.status ≢ status.DiskFault → IsTrue (e.tells ran.second) × IsEmptyOrHoldsPart i params whole (e.image ran.second)
    pub moments : LeavesOnly (IsEmptyOrHoldsPart i params whole) (e.moments second) (e.moments ran.second)
    pub limit : (allotted : ℕ) → ran.status ≡ status.PageLimit allotted → (allotted ≡ params.pages) × LacksNext i params whole (e.image ran.second)

  -- Where the first disk holds this history and has this version: what is kept of it is written.
  pub record MakesKept (params : Params) (h : History) (version : ℕ) : Type 0 where
    pub writes : WritesHistory params (kept h version)
    -- It has as many versions, and answers each query alike from this one on.
    pub last : ran.status ≡ status.Fine → last_version (kept h version) ≡ last_version h
    pub alike : (later : ℕ) (q : Query) → ran.status ≡ status.Fine → version ≤ later → later ≤ last_version h → answer params (kept h version) later q ≡ answer params h later q
    -- A crash now leaves the first disk with its history.
    pub first : (ran.status ≡ status.Fine) ⊎ (ran.status ≡ status.WriteFault) → HoldsSurely d i params h ran.disk
    pub enough_pages : (allotted : ℕ) → 3 + batches_need params [] (kept h version) ≤ params.pages → ran.status ≢ status.PageLimit allotted
    pub undamaged : (area : Area) (page : ℕ) → ran.status ≢ status.Damaged area page
    pub complete : (Rose (k.faults sink) (k.faults sink') → ⊥) → ran.status ≢ status.DiskFault → ((allotted : ℕ) → ran.status ≢ status.PageLimit allotted)
        → (ran.status ≡ status.Fine) ⊎ (ran.status ≡ status.NoMemory)

  -- Where the first disk shows a warehouse with this meta page, which has this version, whatever history it holds or none: some history with as
  -- many versions is written.
  pub record MakesSome (params : Params) (meta : Meta) (version : ℕ) : Type 0 where
    pub whole : History
    pub last : last_version whole ≡ meta.version
    pub writes : WritesHistory params whole
    -- The batches after that version are those of a history with the numbers of the meta page.
    pub later : (ran.status ≡ status.Fine) ⊎ (ran.status ≡ status.WriteFault) → (h : History) × HasNumbersOf meta h × (drop version whole ≡ drop version h)
    pub has_version : (other : ℕ) → ran.status ≢ status.NoVersion other

  -- What becomes of the second disk.
  pub record LeavesSecond (version : ℕ) : Type 0 where
    -- It is not called where the first one has no warehouse, nor where that has no such version.
    pub unopened : IsTrue (d.tells disk) → (is_empty (d.image disk) ≡ true) ⊎ IsNoWarehouse i.DIMS (d.image disk) → ran.second ≡ second
    pub no_version : (params : Params) (h : History) → HoldsHistory d i true disk params h → last_version h < version → (ran.second ≡ second)
        × ((ran.status ≡ status.NoVersion (last_version h)) ⊎ ((ran.status ≡ status.DiskFault) ⊎ (ran.status ≡ status.NoMemory)))
    pub no_version_only : (params : Params) (h : History) (last : ℕ) → HoldsHistory d i true disk params h → ran.status ≡ status.NoVersion last
        → (last ≡ last_version h) × (last < version)
    -- What is on it stays, and where the first one has the version, that is what is answered.
    pub there : IsTrue (e.tells second) → is_empty (e.image second) ≡ false → StaysAsRead e second ran.second × (ran.status ≢ status.Fine)
        × (ran.status ≢ status.WriteFault) × ((allotted : ℕ) → ran.status ≢ status.PageLimit allotted)
    pub there_held : (params : Params) (h : History) → HoldsHistory d i true disk params h → version ≤ last_version h → IsTrue (e.tells second)
        → is_empty (e.image second) ≡ false → (ran.status ≡ status.AlreadyThere) ⊎ ((ran.status ≡ status.DiskFault) ⊎ (ran.status ≡ status.NoMemory))
    pub there_only : ran.status ≡ status.AlreadyThere → IsTrue (e.tells second) → is_empty (e.image second) ≡ false
    pub makes : (params : Params) (h : History) → HoldsHistory d i true disk params h → version ≤ last_version h → IsTrue (e.tells second)
        → is_empty (e.image second) ≡ true → MakesKept params h version
    -- What is said where the first one shows a warehouse, whatever history it holds or none.
    pub shown : (params : Params) → IsTrue (d.tells disk) → (shows : ShowsWarehouse i.DIMS params (d.image disk)) → version ≤ shows.meta.version → IsTrue (e.tells second)
        → is_empty (e.image second) ≡ true → MakesSome params shows.meta version
    pub shown_above : (params : Params) → IsTrue (d.tells disk) → (shows : ShowsWarehouse i.DIMS params (d.image disk)) → shows.meta.version < version
        → (ran.second ≡ second) × ((ran.status ≡ status.NoVersion shows.meta.version) ⊎ ((ran.status ≡ status.DiskFault) ⊎ (ran.status ≡ status.NoMemory)))
    pub shown_there : (params : Params) → IsTrue (d.tells disk) → (shows : ShowsWarehouse i.DIMS params (d.image disk)) → version ≤ shows.meta.version → IsTrue (e.tells second)
        → is_empty (e.image second) ≡ false → (ran.status ≡ status.AlreadyThere) ⊎ ((ran.status ≡ status.DiskFault) ⊎ (ran.status ≡ status.NoMemory))

  -- What its statuses come from, and what the disks tell.
  pub record HasCauses (ends_so : Status → Bool) : Type 0 where
    pub may_end : IsTrue (ends_so ran.status)
    pub write_fault : ran.status ≡ status.WriteFault → Rose (k.faults sink) (k.faults sink')
    pub disk_fault : ran.status ≡ status.DiskFault → Rose (d.faults disk) (d.faults ran.disk) ⊎ Rose (e.faults second) (e.faults ran.second)
    pub tells : d.tells ran.disk ≡ d.tells disk
    pub faults : d.faults disk ≤ d.faults ran.disk
    pub second_tells : e.tells ran.second ≡ e.tells second
    pub second_faults : e.faults second ≤ e.faults ran.second

  -- The history of the first disk from a version on was written to the second.
  pub record Compacts (version : ℕ) : Type 0 where
    -- Where it ends otherwise nothing is printed.
    pub silent : ran.status ≢ status.Fine → ran.status ≢ status.WriteFault → sink' ≡ sink
    pub reads : ReadsWarehouse d i disk (first_of ran)
    pub leaves : LeavesSecond version
    pub causes : HasCauses ends.ends_compact

-- The commands.
module _ {D S K X : Type 0} (d : DiskGhosts D) (s : SourceGhosts S) (k : SinkGhosts K) (i : IndexGhosts X) (disk : D) (source source' : S) (sink sink' : K) (ran : Ran D) where
  -- The causes of the statuses that all commands share.
  pub record HasCause : Type 0 where
    pub ports : HasPortCause s k source source' sink sink' ran.status
    pub disk_fault : ran.status ≡ status.DiskFault → Rose (d.faults disk) (d.faults ran.disk)

  -- `scratch`: the disk is not called.
  pub record ScratchRan (params : Params) : Type 0 where
    pub disk_stays : ran.disk ≡ disk
    pub answers : AnswersFromNothing s k source source' sink sink' ran.status params

  -- `create`
  pub record CreateRan (params : Params) : Type 0 where
    pub untouched : Untouched source source' sink sink'
    pub makes : MakesEmpty d disk ran i params

  -- `sample`
  pub record SampleRan (start count : ℕ) : Type 0 where
    pub source_stays : source' ≡ source
    pub samples : Samples d k i disk sink sink' ran start count

  -- `export`
  pub record ExportRan : Type 0 where
    pub source_stays : source' ≡ source
    pub exports : Exports d k i disk sink sink' ran

  -- `check`
  pub record CheckRan : Type 0 where
    pub source_stays : source' ≡ source
    pub checks : Checks d k i disk sink sink' ran

  -- The disk failed, or there was no memory: the warehouse may not have been opened.
  abbrev pub MayNotHaveOpened : Type 0
  MayNotHaveOpened = (ran.status ≡ status.DiskFault) ⊎ (ran.status ≡ status.NoMemory)

  -- Of the input some lines were served, and at most one more was begun. The disk, unless it failed, holds the history after the first
  -- or after both, and no batch of a later line, and a crash now leaves that history. A crash at any moment left what might have been left
  -- before, or no more than that with the line that was begun. Where the disk failed, a crash now leaves no less than the lines that were
  -- served have made sure. What might have been left before may be left only where nothing was begun, since the warehouse was not opened.
  pub record KeepsServed (params : Params) (h : History) : Type 0 where
    pub lines : ServesInput s k source source' sink sink' ran.status params h
    pub sure : History
    pub which : (sure ≡ history_by params h lines.served) ⊎ (sure ≡ history_by params h (lines.served ++ lines.cut_off))
    pub holds : ran.status ≢ status.DiskFault → HoldsHistory d i true ran.disk params sure
    pub surely : ran.status ≢ status.DiskFault → (x : Image) → MayBeLeftNow (d.moments ran.disk) x
        → (MayNotHaveOpened × (lines.served ++ lines.cut_off ≡ []) × MayBeLeftNow (d.moments disk) x) ⊎ Holds i x params sure
    pub left : (x : Image) → MayBeLeftNow (d.moments ran.disk) x
        → (MayNotHaveOpened × (lines.served ++ lines.cut_off ≡ []) × MayBeLeftNow (d.moments disk) x)
        ⊎ HoldsBetween i params sure (history_by params h (lines.served ++ lines.cut_off)) x
    pub moments : LeavesOnly (HoldsBetween i params h (history_by params h (lines.served ++ lines.cut_off))) (d.moments disk) (d.moments ran.disk)

  -- The history that the disk is left with, where it held this one.
  pub record LeavesHistory (params : Params) (h : History) : Type 0 where
    -- All batches of the input, where the run is fine; all of the lines that were taken, where the input ends it.
    pub kept : ran.status ≡ status.Fine → IsTrue (s.tells source) → HoldsSurely d i params (after params h (s.left source)) ran.disk
    pub whole_kept : (taken : List ℕ) → IsInputStatus ran.status → IsTrue (s.tells source) → IsTrue (s.tells source') → s.left source ≡ taken ++ s.left source'
        → HoldsHistory d i true ran.disk params (after params h (whole_part taken))
    -- However it ends: those of the lines that were served, and at most of the one that was cut off.
    pub served : IsTrue (s.tells source) → KeepsServed params h
    -- That is a first part of what the input gives, in which what is acknowledged stays.
    pub stays : IsTrue (s.tells source) → ran.status ≢ status.DiskFault → HoldsBetween i params h (after params h (s.left source)) (d.image ran.disk)
    pub acknowledged : (first : List (List ℕ)) → IsTrue (s.tells source) → IsTrue (k.tells sink) → IsTrue (k.tells sink')
        → AreReplied params h (s.left source) (k.written sink) (k.written sink') first → ran.status ≢ status.DiskFault
        → HoldsBetween i params (history_by params h first) (after params h (s.left source)) (d.image ran.disk)
    -- Whatever the source gives, the history only goes on.
    pub goes_on : ran.status ≢ status.DiskFault → IsTrue (d.tells ran.disk) × HoldsFrom i params h (d.image ran.disk)

  -- What a stop at any moment of the run leaves of such a disk, beside what might have been left before; what is acknowledged speaks of the
  -- moment at which the run ends. (A stop is a disk whose later calls all fail.)
  pub record CrashesLeave (params : Params) (h : History) : Type 0 where
    -- A first part of what the input gives.
    pub between : IsTrue (s.tells source) → LeavesOnly (HoldsBetween i params h (after params h (s.left source))) (d.moments disk) (d.moments ran.disk)
    -- What is acknowledged is in it.
    pub acknowledged : (first : List (List ℕ)) → IsTrue (s.tells source) → IsTrue (k.tells sink) → IsTrue (k.tells sink')
        → AreReplied params h (s.left source) (k.written sink) (k.written sink') first
        → (MayNotHaveOpened → history_by params h first ≢ h)
        → LeavesEach (HoldsBetween i params (history_by params h first) (after params h (s.left source))) (d.moments ran.disk)
    -- Whatever the source gives, a history that goes on from this one.
    pub goes_on : LeavesOnly (HoldsFrom i params h) (d.moments disk) (d.moments ran.disk)

  -- An input that commits nothing was answered from trees that stand for this history, whatever the table holds.
  pub record ReadsAlone (params : Params) (h : History) : Type 0 where
    pub reads : ReadsForLines (query_cost i.cost) params h (s.tells source') (s.left source) (s.left source') ran.status (k.tells sink) (k.tells sink') (k.written sink) (k.written sink')
        (d.reads disk + 4 + replay_reads (d.image disk)) (d.reads ran.disk)
    -- The disk stands for the pages that it stood for, and so does each image that a stop at any moment leaves beside what might have been
    -- left before.
    pub stays : (pages : PageList) → SettlesTo (d.image disk) pages → ran.status ≢ status.DiskFault → SettlesTo (d.image ran.disk) pages
    pub moments : (pages : PageList) → SettlesTo (d.image disk) pages → LeavesOnly (λ x. SettlesTo x pages) (d.moments disk) (d.moments ran.disk)
    -- Where no commit that was cut off is put in its place, nothing is written.
    pub untouched : HasNoReplay (d.image disk) → StaysAsRead d disk ran.disk
    pub unlimited : (allotted : ℕ) → ran.status ≢ status.PageLimit allotted

  -- Where the pages did not suffice on such a disk: a commit comes next that may need more than there are.
  pub record LimitsPages (params : Params) (h : History) : Type 0 where
    pub lacks : (allotted : ℕ) → ran.status ≡ status.PageLimit allotted → IsTrue (s.tells source)
        → LacksPagesNext i params h (s.left source) (d.image ran.disk) (k.tells sink) (k.tells sink') (k.written sink) (k.written sink') allotted
    pub enough_pages : (pages : PageList) (allotted : ℕ) → IsTrue (s.tells source) → SettlesTo (d.image disk) pages
        → pages_charge pages + lines_need batch_need params 1 (begun h) (lines (s.left source)) ≤ params.pages → ran.status ≢ status.PageLimit allotted

  -- `run`: the warehouse on the disk was opened, and the rows of the source were answered and put into it.
  pub record RunRan : Type 0 where
    -- Without a warehouse nothing is run, nor where what is there is none.
    pub empty : IsTrue (d.tells disk) → is_empty (d.image disk) ≡ true → Untouched source source' sink sink' × StaysAsRead d disk ran.disk
        × ((ran.status ≡ status.NoWarehouse) ⊎ ((ran.status ≡ status.DiskFault) ⊎ (ran.status ≡ status.NoMemory)))
    pub empty_only : ran.status ≡ status.NoWarehouse → IsTrue (d.tells disk) → is_empty (d.image disk) ≡ true
    pub refused : IsTrue (d.tells disk) → IsNoWarehouse i.DIMS (d.image disk) → Untouched source source' sink sink' × Refuses d (IsDamagedToOpen i.DIMS) disk ran
    -- What is printed.
    pub answers : (params : Params) (h : History) → BeginsWith d i disk (s.tells source) (s.left source) params h → Answers s k source source' sink sink' ran.status params h
    pub at_end : ReadsToTheEnd s k source source' sink sink' ran.status
    -- What is left on the disk, and what a stop leaves.
    pub history : (params : Params) (h : History) → HoldsHistory d i true disk params h → LeavesHistory params h
    pub crashes : (params : Params) (h : History) → HoldsHistory d i true disk params h → CrashesLeave params h
    -- What is read.
    pub reads : (params : Params) (h : History) → HoldsHistory d i false disk params h → IsTrue (s.tells source) → CommitsNothing params (s.left source)
        → ReadsAlone params h
    -- When pages do not suffice. The number is the limit, whatever the pages hold.
    pub pages : (params : Params) (h : History) → HoldsHistory d i true disk params h → LimitsPages params h
    pub at_limit : (params : Params) (meta : Meta) (pages : PageMap) (allotted : ℕ) → IsTrue (d.tells disk) → HoldsSpace (d.image disk) params meta pages ⊥
        → ran.status ≡ status.PageLimit allotted → allotted ≡ params.pages

  -- Each line of the source was answered by itself, and none changed anything.
  pub record AnswersEachLine (reply : ℕ → List ℕ → List ℕ) (cost : List ℕ → ℕ) : Type 0 where
    pub writes : WritesText s k source source' sink sink' ran.status (text_by reply)
    -- Which lines were answered, and what was read for them.
    pub answered : IsTrue (s.tells source) → AnswersEach reply cost (s.left source) (s.left source') (s.tells source') ran.status
        (k.tells sink) (k.tells sink') (k.written sink) (k.written sink') (d.reads disk + 4 + replay_reads (d.image disk)) (d.reads ran.disk)

  -- What is on the disk was opened, and the lines of the source were answered from it.
  pub record AnswersFrom (content : Content) (stands : Params → History → Image → Type 0) (reply : Params → History → ℕ → List ℕ → List ℕ) (cost : Params → History → List ℕ → ℕ) : Type 0 where
    -- Where the disk has nothing of the kind nothing is answered.
    pub nothing : IsTrue (d.tells disk) → (is_empty (d.image disk) ≡ true) ⊎ content.none (d.image disk) → Untouched source source' sink sink'
    pub reads : ReadsContent d disk ran content
    pub answers : (params : Params) (h : History) → IsTrue (d.tells disk) → stands params h (d.image disk) → AnswersEachLine (reply params h) (cost params h)
    pub at_end : ReadsToTheEnd s k source source' sink sink' ran.status
    -- A crash now leaves what the disk holds, or, where there was no memory to open it, what it might have left before.
    pub surely : (params : Params) (h : History) → IsTrue (d.tells disk) → content.holds params h (d.image disk) → ran.status ≢ status.DiskFault
        → (x : Image) → MayBeLeftNow (d.moments ran.disk) x
        → ((ran.status ≡ status.NoMemory) × Untouched source source' sink sink' × MayBeLeftNow (d.moments disk) x) ⊎ content.holds params h x

  -- `report`: the warehouse on the disk was opened, and the grids that the lines of the source ask for were answered, from trees that stand for
  -- a history, whatever the table holds.
  abbrev pub ReportRan : Type 0
  ReportRan = AnswersFrom (warehouses i) (λ params h x. HoldsTrees i x params h) grid_replies (λ params h. grid_line_cost i.cost params h)

  -- `spanrun`: the spans on the disk were opened, and those that the lines of the source ask for were answered.
  pub record SpanRunRan : Type 0 where
    pub answers : AnswersFrom (all_spans i) (λ params h x. SpanHolds i x params h) span_reply (λ params h. span_line_cost i.cost params h)
    pub may_end : IsTrue (ends.ends_report ran.status)
    pub causes : HasCause
    pub tells : d.tells ran.disk ≡ d.tells disk
    pub faults : d.faults disk ≤ d.faults ran.disk

  -- This command was carried out.
  pub record Carried (asked : Option Command) : Type 0 where
    -- Where there is none, the words are refused, and nothing is called.
    pub usage : asked ≡ None → Untouched source source' sink sink' × (ran.disk ≡ disk)
        × ((ran.status ≡ status.Usage) ⊎ (ran.status ≡ status.NoMemory))
    pub usage_only : ran.status ≡ status.Usage → asked ≡ None
    -- What each command leaves.
    pub scratch : (params : Params) → asked ≡ Some (command.Scratch params) → ScratchRan params
    pub create : (params : Params) → asked ≡ Some (command.Create params) → CreateRan params
    pub run : asked ≡ Some command.Run → RunRan
    pub sample : (start count : ℕ) → asked ≡ Some (command.Sample start count) → SampleRan start count
    pub report : asked ≡ Some command.Report → ReportRan
    pub export : asked ≡ Some command.Export → ExportRan
    pub check : asked ≡ Some command.Check → CheckRan
    -- With which statuses each may end, and what they come from.
    pub may_end : IsTrue (ends.may_end asked ran.status)
    pub causes : HasCause
    -- However it ends, the disk tells what it told, and no failure of it is forgotten.
    pub tells : d.tells ran.disk ≡ d.tells disk
    pub faults : d.faults disk ≤ d.faults ran.disk
