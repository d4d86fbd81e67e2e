-- What a compaction leaves on the second disk.
use Rattle.std.specs.Prelude.{◌≡◌, ◌≢◌, ◌⊎◌, ℕ, ◌+◌, ◌≤◌, true, false, IsTrue, List, [], ◌∷◌, ◌++◌, drop, length}
use Rattle.bw_types.specs.History.{History, changes, last_version}
use Rattle.bw_types.specs.Lawful.{staged_rows}
use Rattle.bw_types.specs.declared.change.Change.{Change}
use Rattle.bw_types.specs.declared.params.Params.{Params}
use Rattle.dom_index.specs.declared.index.DomIndex.{Ghosts as IndexGhosts}
use Rattle.page_disk.specs.Image.{Image}
use Rattle.page_disk.specs.Moment.{MayBeLeftNow}
use Rattle.page_disk.specs.Since.{LeavesOnly}
use Rattle.page_disk.specs.declared.disk.Disk.{Ghosts}
use Rattle.page_space.specs.Opened.{StaysAsRead}
use Rattle.page_warehouse.specs.Holds.{Holds}
use Rattle.page_warehouse.specs.Needs.{LacksPages, batch_need}
use Rattle.page_layout.specs.declared.meta.Meta.{Meta}
use Rattle.redo_journal.specs.Gates.{is_empty}
use Rattle.page_warehouse.specs.Told.{HasNumbersOf}
use Rattle.compact_store.specs.declared.compacting.Compacted.{Compacted}
use Rattle.compact_store.specs.declared.compacting.Compacted.TheVariants.{Done, NoVersion, AlreadyThere, PageLimit, Damaged, NoMemory, Disk}

-- the second disk when the call is done
abbrev pub second_out : {E : Type 0} → Compacted E → E
second_out (Done second rows) = second
second_out (NoVersion second last) = second
second_out (AlreadyThere second) = second
second_out (PageLimit second allotted) = second
second_out (Damaged second page) = second
second_out (NoMemory second) = second
second_out (Disk second) = second

-- the most pages that the commits of these batches take together, one after the other, behind this history
abbrev pub batches_need : Params → History → History → ℕ
batches_need params before [] = 0
batches_need params before (batch ∷ batches) = batch_need params before (staged_rows batch) + batches_need params (before ++ batch ∷ []) batches

module _ {X : Type 0} (i : IndexGhosts X) where
  -- The image holds a first part of this history.
  pub record HoldsPart (params : Params) (whole : History) (x : Image) : Type 0 where
    pub part : History
    pub later : History
    pub cut : whole ≡ part ++ later
    pub holds : Holds i x params part

  -- no warehouse is there, or one with a first part of this history
  abbrev pub IsEmptyOrHoldsPart : Params → History → Image → Type 0
  IsEmptyOrHoldsPart params whole x = (is_empty x ≡ true) ⊎ HoldsPart params whole x

  -- The image holds a first part of this history, and the commit of the batch that comes next lacks pages there.
  pub record LacksNext (params : Params) (whole : History) (x : Image) : Type 0 where
    pub part : History
    pub batch : List Change
    pub later : History
    pub cut : whole ≡ part ++ batch ∷ later
    pub holds : Holds i x params part
    pub lacks : LacksPages x params part (staged_rows batch)

module _ {E X : Type 0} (g : Ghosts E) (i : IndexGhosts X) where
  -- What is left of an empty second disk when this history is written to it, however that ends: no warehouse or one with a first part of it,
  -- where the disk did not fail. A crash at any moment left what it might have left before, or that.
  pub record LeavesPart (params : Params) (whole : History) (second : E) (result : Compacted E) : Type 0 where
    pub now : ((e : E) → result ≢ Disk e) → IsTrue (g.tells (second_out result)) × IsEmptyOrHoldsPart i params whole (g.image (second_out result))
    pub moments : LeavesOnly (IsEmptyOrHoldsPart i params whole) (g.moments second) (g.moments (second_out result))
    -- Where it is done, the whole is there, and a crash from now on leaves it.
    pub done : (e : E) (rows : ℕ) → result ≡ Done e rows
        → (rows ≡ length (changes whole)) × (Holds i (g.image e) params whole × ((x : Image) → MayBeLeftNow (g.moments e) x → Holds i x params whole))
    pub limit : (e : E) (allotted : ℕ) → result ≡ PageLimit e allotted → (allotted ≡ params.pages) × LacksNext i params whole (g.image e)
    -- Pages are enough where the needs of all commits together fit.
    pub enough_pages : (e : E) (allotted : ℕ) → 3 + batches_need params [] whole ≤ params.pages → result ≢ PageLimit e allotted

  -- What is left of it whatever the first disk holds: no warehouse, or one with a first part of some history that has the last version of the
  -- meta page there.
  pub record LeavesSome (params : Params) (meta : Meta) (version : ℕ) (second : E) (result : Compacted E) : Type 0 where
    pub whole : History
    pub last : last_version whole ≡ meta.version
    pub leaves : LeavesPart params whole second result
    -- Where it is done, the batches after the version are those of a history with the numbers of that page.
    pub later : (e : E) (rows : ℕ) → result ≡ Done e rows → (h : History) × HasNumbersOf meta h × (drop version whole ≡ drop version h)

module _ {E : Type 0} (g : Ghosts E) where
  -- A second disk with something on it stays as it is.
  pub record StaysWhereFull (second : E) (result : Compacted E) : Type 0 where
    pub there : IsTrue (g.tells second) → is_empty (g.image second) ≡ false → StaysAsRead g second (second_out result)
        × (((e : E) (rows : ℕ) → result ≢ Done e rows) × (((e : E) (allotted : ℕ) → result ≢ PageLimit e allotted)
        × (((e : E) (page : ℕ) → result ≢ Damaged e page) × ((e : E) → result ≢ NoMemory e))))
    pub only : (e : E) → result ≡ AlreadyThere e → IsTrue (g.tells second) → is_empty (g.image second) ≡ false
