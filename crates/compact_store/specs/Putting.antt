-- What calls that put batches on a second disk leave.
use Rattle.std.specs.Prelude.{◌≡◌, ◌≢◌, ◌≤◌, ℕ, ◌+◌, Bool, true, false, IsTrue, [], ◌++◌, Result, Ok, Err}
use Rattle.bw_types.specs.History.{History}
use Rattle.bw_types.specs.Lawful.{IsLawful}
use Rattle.bw_types.specs.declared.params.Params.{Params}
use Rattle.ports.specs.Count.{Rose}
use Rattle.dom_index.specs.declared.index.DomIndex.{Ghosts as IndexGhosts}
use Rattle.page_disk.specs.Image.{Image}
use Rattle.page_disk.specs.Moment.{MayBeLeftNow}
use Rattle.page_disk.specs.Since.{LeavesOnly}
use Rattle.page_disk.specs.declared.disk.Disk.{Ghosts}
use Rattle.page_warehouse.specs.Holds.{Holds}
use Rattle.page_warehouse.specs.Needs.{pages_charge}
use Rattle.page_disk.specs.Image.{PageList}
use Rattle.redo_journal.specs.Settled.{SettlesTo}
use Rattle.page_warehouse.specs.Shown.{disk_charge, disk_in, params_in}
use Rattle.page_warehouse.specs.declared.state.Warehouse.{Warehouse}
use Rattle.warehouse.specs.declared.committed.Committed.{Committed}
use Rattle.warehouse.specs.declared.committed.Committed.TheVariants as committed
use Rattle.compact_store.specs.Compacted.{IsEmptyOrHoldsPart, LeavesPart, batches_need, second_out}
use Rattle.compact_store.specs.declared.compacting.Compacted.{Compacted}
use Rattle.compact_store.specs.declared.compacting.Compacted.TheVariants.{Done, NoVersion, AlreadyThere, PageLimit, Damaged, NoMemory, Disk}

-- the second disk was written to
abbrev pub is_written : {E : Type 0} → Compacted E → Bool
is_written (Done second rows) = true
is_written (NoVersion second last) = false
is_written (AlreadyThere second) = false
is_written (PageLimit second allotted) = true
is_written (Damaged second page) = true
is_written (NoMemory second) = true
is_written (Disk second) = true

-- the house after a commit that put a batch, and else how the compaction ends
abbrev pub outcome_of : {H E : Type 0} → (H → E) → Committed H E → Result H (Compacted E)
outcome_of device (committed.Done house version) = Ok house
outcome_of device (committed.Refused house refusal) = Err (Damaged (device house) 2)
outcome_of device (committed.PageLimit house allotted) = Err (PageLimit (device house) allotted)
outcome_of device (committed.NoMemory house) = Err (NoMemory (device house))
outcome_of device (committed.Damaged house page) = Err (Damaged (device house) page)
outcome_of device (committed.Disk disk) = Err (Disk disk)

module _ {E X : Type 0} (g : Ghosts E) (i : IndexGhosts X) where
  -- The disk holds a first part of the history, and these batches are left. A crash now leaves that part, and a crash since the start
  -- left no warehouse or a first part, or what it might have left then.
  pub record StandsBefore (params : Params) (whole later : History) (start disk : E) : Type 0 where
    pub part : History
    pub cut : whole ≡ part ++ later
    pub tells : IsTrue (g.tells disk)
    pub holds : Holds i (g.image disk) params part
    pub left : (x : Image) → MayBeLeftNow (g.moments disk) x → Holds i x params part
    pub moments : LeavesOnly (IsEmptyOrHoldsPart i params whole) (g.moments start) (g.moments disk)
    -- The pages that count against the limit are no more than the batches so far need.
    pub charge : disk_charge g disk + batches_need params part later ≤ 3 + batches_need params [] whole

  -- Whatever pages the disk stands for, no more of them count against the limit than of its own.
  abbrev pub CountsItsPages : E → Type 0
  CountsItsPages disk = (pages : PageList) → SettlesTo (g.image disk) pages → pages_charge pages ≤ disk_charge g disk

  -- the disk stands before any history, and counts its pages
  abbrev pub IsReady : Params → E → E → Type 0
  IsReady params start disk = ((whole : History) → StandsBefore params whole whole start disk) × CountsItsPages disk

  -- the second disk when the call is done
  abbrev pub disk_after : Result (Warehouse E X g i) (Compacted E) → E
  disk_after (Ok house) = disk_in house
  disk_after (Err ended) = second_out ended

  -- the house stands before these batches, or the compaction has ended
  abbrev pub GoesTo : Params → History → History → E → Result (Warehouse E X g i) (Compacted E) → Type 0
  GoesTo params whole later start (Ok house) = (params_in house ≡ params) × StandsBefore params whole later start (disk_in house)
  GoesTo params whole later start (Err ended) = LeavesPart g i params whole start ended

  abbrev pub WasWritten : Result (Warehouse E X g i) (Compacted E) → Type 0
  WasWritten (Ok house) = Unit {0}
  WasWritten (Err ended) = IsTrue (is_written ended)

  -- These batches are put behind those that the house has, if they are the next ones of a history.
  pub record Puts (batches : History) (house : Warehouse E X g i) (result : Result (Warehouse E X g i) (Compacted E)) : Type 0 where
    pub tells : g.tells (disk_after result) ≡ g.tells (disk_in house)
    pub faults : g.faults (disk_in house) ≤ g.faults (disk_after result)
    pub disk : (e : E) → result ≡ Err (Disk e) → Rose (g.faults (disk_in house)) (g.faults e)
    pub written : WasWritten result
    pub goes : (params : Params) (whole later : History) (start : E) → params_in house ≡ params → StandsBefore params whole (batches ++ later) start (disk_in house)
        → GoesTo params whole later start result
    -- No batch of a lawful history is refused, and no page is damaged.
    pub sound : (params : Params) (whole later : History) (start e : E) (page : ℕ) → params_in house ≡ params → IsLawful params whole
        → StandsBefore params whole (batches ++ later) start (disk_in house) → result ≢ Err (Damaged e page)
