-- What becomes of a second disk to which the spans of a warehouse are written, and what is printed.
use Rattle.std.specs.Prelude.{◌≡◌, ◌≢◌, ◌⊎◌, ℕ, ◌+◌, ◌<◌, true, false, IsTrue, List, ◌≤◌, ◌++◌, length, Option, Some, None, codes}
use Rattle.std.specs.Fmt.{decimal}
use Rattle.ports.specs.Count.{Rose}
use Rattle.bw_types.specs.History.{History, changes, last_version}
use Rattle.bw_types.specs.declared.params.Params.{Params}
use Rattle.ports.specs.Written.{WritesPart}
use Rattle.ports.specs.declared.Sink.{Ghosts as SinkGhosts}
use Rattle.page_disk.specs.Image.{Image}
use Rattle.page_disk.specs.Moment.{MayBeLeftNow}
use Rattle.page_disk.specs.Since.{LeavesOnly}
use Rattle.page_disk.specs.declared.disk.Area.{Area}
use Rattle.page_disk.specs.declared.disk.Area.TheVariants.{Pages}
use Rattle.page_disk.specs.declared.disk.Disk.{Ghosts as DiskGhosts}
use Rattle.redo_journal.specs.Gates.{is_empty}
use Rattle.dom_index.specs.declared.index.DomIndex.{Ghosts as IndexGhosts}
use Rattle.page_warehouse.specs.Shown.{HoldsHistory}
use Rattle.span_planes.specs.Filled.{span_growth}
use Rattle.span_planes.specs.Made.{HasGivenOut, HoldsNoVersion, IsStillReady, MayTakeSpans, ShowsSpans}
use Rattle.span_planes.specs.SpanHolds.{SpanHolds}
use Rattle.span_planes.specs.declared.making.Derived.{Derived}
use Rattle.span_planes.specs.declared.making.Derived.TheVariants as derived
use Rattle.boxsum.specs.Ends.{ends_spans}
use Rattle.boxsum.specs.Held.{HoldsSurely, IsNoWarehouse, ShowsWarehouse, SurelyHolds, all_spans}
use Rattle.boxsum.specs.Ran.{DidNotFail, HasCauses, ReadsWarehouse, first_of, second_of}
use Rattle.boxsum.specs.declared.status.RanTwo.{RanTwo}
use Rattle.boxsum.specs.declared.status.Status.{Status}
use Rattle.boxsum.specs.declared.status.Status.TheVariants as status

-- the line that is printed: the last version
abbrev pub spans_line : ℕ → List ℕ
spans_line last = codes "spans," ++ decimal last ++ codes "\n"

module _ {E : Type 0} where
  -- the status of a derivation that is not done
  abbrev pub failure_of : Derived E → Option Status
  failure_of (derived.Done second version) = None
  failure_of (derived.AlreadyThere second) = Some status.AlreadyThere
  failure_of (derived.PageLimit second allotted) = Some (status.PageLimit allotted)
  failure_of (derived.Damaged second page) = Some (status.Damaged Pages page)
  failure_of (derived.NoMemory second) = Some status.NoMemory
  failure_of (derived.Disk second) = Some status.DiskFault

module _ {D E K X : Type 0} (d : DiskGhosts D) (e : DiskGhosts E) (k : SinkGhosts K) (i : IndexGhosts X) (disk : D) (second : E) (sink sink' : K) (ran : RanTwo D E) where
  -- Spans were written, and their line was printed or not.
  abbrev pub IsDone : Type 0
  IsDone = (ran.status ≡ status.Fine) ⊎ (ran.status ≡ status.WriteFault)

  -- What is left on a second disk that may take spans, and printed, where the first one holds this history.
  pub record MakesSpans (params : Params) (h : History) : Type 0 where
    -- The second disk holds the spans of all versions, and a crash now leaves them.
    pub done : IsDone → SurelyHolds e (all_spans i) params h ran.second
    pub fine : ran.status ≡ status.Fine → IsTrue (k.tells sink) → IsTrue (k.tells sink') × (k.written sink' ≡ k.written sink ++ spans_line (last_version h))
    pub part : IsTrue (k.tells sink) → IsTrue (k.tells sink') → WritesPart (k.written sink) (k.written sink') (spans_line (last_version h))
    -- A crash now leaves the first disk with its history.
    pub first : IsDone → HoldsSurely d i params h ran.disk
    -- A stop at any moment leaves what might have been left before, what may take spans, or all of them.
    pub moments : LeavesOnly (λ x. MayTakeSpans params x ⊎ SpanHolds i x params h) (e.moments second) (e.moments ran.second)
    -- The second disk gives out no more page numbers than are stated, beside those of before.
    pub growth : IsDone → (before after : ℕ) → HasGivenOut params (e.image second) before → HasGivenOut params (e.image ran.second) after
        → after ≤ before + span_growth params (length (changes h))
    -- Pages lack only where the stated need passes the limit, beside what was given out before.
    pub limit : (allotted before : ℕ) → ran.status ≡ status.PageLimit allotted → HasGivenOut params (e.image second) before
        → params.pages < before + span_growth params (length (changes h))
    pub undamaged : (area : Area) (page : ℕ) → ran.status ≢ status.Damaged area page
    -- With no fault, pages enough and ample memory it is fine.
    pub complete : (Rose (k.faults sink) (k.faults sink') → ⊥) → ran.status ≢ status.DiskFault → ((allotted : ℕ) → ran.status ≢ status.PageLimit allotted)
        → (ran.status ≡ status.Fine) ⊎ (ran.status ≡ status.NoMemory)

  -- A second disk that may take spans, where the first one shows a warehouse with this version, whatever history it holds or none.
  pub record KeepsReady (params : Params) (version : ℕ) : Type 0 where
    -- Unless it is done or the second one failed, that is still ready for them, and what a stop at any moment left may take them, beside what
    -- might have been left before.
    pub ready : (IsDone → ⊥) → DidNotFail e second (second_of ran)
        → IsStillReady params (e.image second) (e.image ran.second) × LeavesOnly (MayTakeSpans params) (e.moments second) (e.moments ran.second)
    -- Where it is done, the second one shows spans up to that version, and so does what a crash now leaves of it.
    pub done : IsDone → ShowsSpans params version (e.image ran.second) × ((x : Image) → MayBeLeftNow (e.moments ran.second) x → ShowsSpans params version x)
    pub fine : ran.status ≡ status.Fine → IsTrue (k.tells sink) → IsTrue (k.tells sink') × (k.written sink' ≡ k.written sink ++ spans_line version)
    -- Spans of no version may be replaced by those of more, and are those that were there.
    pub none : IsDone → version ≡ 0 → HoldsNoVersion params (e.image ran.second) × IsStillReady params (e.image second) (e.image ran.second)
    -- A stop at any moment leaves what might have been left before, what may take spans, or what shows them.
    pub moments : LeavesOnly (λ x. MayTakeSpans params x ⊎ ShowsSpans params version x) (e.moments second) (e.moments ran.second)
    pub at_limit : (allotted : ℕ) → ran.status ≡ status.PageLimit allotted → allotted ≡ params.pages
    pub there : ran.status ≢ status.AlreadyThere

  -- A second disk that may not take spans is told to be there. It is as it was, whatever journal is open on it: no call writes to it.
  pub record KeepsThere : Type 0 where
    pub told : (ran.status ≡ status.AlreadyThere) ⊎ ((ran.status ≡ status.DiskFault) ⊎ (ran.status ≡ status.NoMemory))
    pub image : e.image ran.second ≡ e.image second
    pub moments : e.moments ran.second ≡ e.moments second

  -- What becomes of the second disk.
  pub record LeavesSpanDisk : Type 0 where
    -- It is not called where the first one has no warehouse.
    pub unopened : IsTrue (d.tells disk) → (is_empty (d.image disk) ≡ true) ⊎ IsNoWarehouse i.DIMS (d.image disk) → ran.second ≡ second
    -- It may take spans where it is empty, or holds spans of no version, made for such a warehouse.
    pub ready : (params : Params) → IsTrue (d.tells disk) → (shows : ShowsWarehouse i.DIMS params (d.image disk)) → IsTrue (e.tells second) → MayTakeSpans params (e.image second)
        → KeepsReady params shows.meta.version
    pub there : (params : Params) → IsTrue (d.tells disk) → ShowsWarehouse i.DIMS params (d.image disk) → IsTrue (e.tells second) → (MayTakeSpans params (e.image second) → ⊥) → KeepsThere
    pub there_only : ran.status ≡ status.AlreadyThere → IsTrue (e.tells second) → is_empty (e.image second) ≡ false
    pub makes : (params : Params) (h : History) → HoldsHistory d i true disk params h → IsTrue (e.tells second) → MayTakeSpans params (e.image second) → MakesSpans params h

  -- `spans`: the spans of the warehouse on the first disk were written to the second.
  pub record Derives : Type 0 where
    -- Where it ends otherwise nothing is printed.
    pub silent : ran.status ≢ status.Fine → ran.status ≢ status.WriteFault → sink' ≡ sink
    pub reads : ReadsWarehouse d i disk (first_of ran)
    pub leaves : LeavesSpanDisk
    pub causes : HasCauses d e k i disk second sink sink' ran ends_spans
