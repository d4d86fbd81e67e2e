-- What a disk holds when a command begins and when it ends, and what a crash may leave of it.
use Rattle.std.specs.Prelude.{◌≡◌, ◌≢◌, ◌⊎◌, ◌≤◌, ⊤, Bool, true, false, IsTrue, ℕ, List, []}
use Rattle.bw_types.specs.History.{History}
use Rattle.bw_types.specs.declared.params.Params.{Params}
use Rattle.line_reader.specs.Lines.{lines}
use Rattle.page_disk.specs.Image.{Image, PageList}
use Rattle.page_disk.specs.Moment.{Moment, MayBeLeftNow}
use Rattle.page_disk.specs.Since.{LeavesOnly}
use Rattle.page_disk.specs.declared.disk.Area.TheVariants.{Pages, Journal}
use Rattle.page_disk.specs.declared.disk.Disk.{Ghosts}
use Rattle.page_layout.specs.declared.meta.Meta.{Meta}
use Rattle.ports.specs.Pages.{PageMap}
use Rattle.page_space.specs.Opening.{StandsAlike}
use Rattle.page_space.specs.Settling.{IsBadAt}
use Rattle.page_space.specs.Space.{HoldsSpace}
use Rattle.redo_journal.specs.Gates.{is_empty}
use Rattle.redo_journal.specs.Settled.{SettlesTo}
use Rattle.dom_index.specs.declared.index.DomIndex.{Ghosts as IndexGhosts}
use Rattle.page_warehouse.specs.Holds.{Holds}
use Rattle.page_warehouse.specs.Opened.{GoTogether, IsDamagedToOpen}
use Rattle.page_warehouse.specs.Shown.{HoldsHistory}
use Rattle.row_machine.specs.Housed.{GoesOnFrom}
use Rattle.row_machine.specs.Serving.{MayServe}
use Rattle.span_planes.specs.Opened.{IsMetaOfSpans}
use Rattle.span_planes.specs.Opened as spans_opened
use Rattle.span_planes.specs.SpanHolds.{SpanHolds}
use Rattle.boxsum.specs.declared.status.Ran.{Ran}
use Rattle.boxsum.specs.declared.status.Status.{Status}
use Rattle.boxsum.specs.declared.status.Status.TheVariants.{Fine, Usage, NoWarehouse, AlreadyThere, ReadFault, WriteFault, DiskFault, NoMemory, Damaged, InputLimit, PageLimit, NoVersion}

-- no row of the input commits, so that it reads alone
abbrev pub CommitsNothing : Params → List ℕ → Type 0
CommitsNothing params input = MayServe false params (lines input)

-- each image that a crash now may leave has P
abbrev pub LeavesEach : (Image → Type 0) → List Moment → Type 0
LeavesEach P moments = (x : Image) → MayBeLeftNow moments x → P x

-- There is no warehouse in the image over so many dimensions at most: it is no space, or the numbers of its meta page do not go together.
abbrev pub IsNoWarehouse : ℕ → Image → Type 0
IsNoWarehouse dims x = (params : Params) (meta : Meta) (pages : PageMap) → HoldsSpace x params meta pages ⊥ → params.dims ≤ dims → GoTogether params meta → ⊥

-- There is one, with these params: it is a space of no more dimensions, and the numbers of its meta page go together.
pub record ShowsWarehouse (dims : ℕ) (params : Params) (x : Image) : Type 0 where
  pub meta : Meta
  pub pages : PageMap
  pub space : HoldsSpace x params meta pages ⊥
  pub few : params.dims ≤ dims
  pub together : GoTogether params meta

-- There are no spans in the image over so many dimensions at most: it is no space, or its meta page is none of spans.
abbrev pub HasNoSpans : ℕ → Image → Type 0
HasNoSpans dims x = (params : Params) (meta : Meta) (pages : PageMap) → HoldsSpace x params meta pages ⊥ → params.dims ≤ dims → IsMetaOfSpans params meta → ⊥

-- What a command opens on a disk: when an image holds it for a history, when there is none in an image, and for which page.
pub record Content : Type 1 where
  pub holds : Params → History → Image → Type 0
  pub none : Image → Type 0
  pub fault : Image → ℕ → Type 0

module _ {X : Type 0} (i : IndexGhosts X) where
  -- a warehouse
  abbrev pub warehouses : Content
  warehouses = record { holds = λ params h x. Holds i x params h; none = IsNoWarehouse i.DIMS; fault = IsDamagedToOpen i.DIMS }

  -- the spans of a warehouse
  abbrev pub all_spans : Content
  all_spans = record { holds = λ params h x. SpanHolds i x params h; none = HasNoSpans i.DIMS; fault = spans_opened.IsDamagedToOpen i.DIMS }

-- A status with which such a disk is refused: it is empty, or this page is the one for which nothing is there; or the device failed, or there
-- was no memory.
abbrev pub IsRefusal : (Image → ℕ → Type 0) → Image → Status → Type 0
IsRefusal fault x NoWarehouse = is_empty x ≡ true
IsRefusal fault x (Damaged Pages page) = fault x page
IsRefusal fault x (Damaged Journal page) = IsBadAt x page
IsRefusal fault x DiskFault = ⊤
IsRefusal fault x NoMemory = ⊤
IsRefusal fault x Fine = ⊥
IsRefusal fault x Usage = ⊥
IsRefusal fault x AlreadyThere = ⊥
IsRefusal fault x ReadFault = ⊥
IsRefusal fault x WriteFault = ⊥
IsRefusal fault x (InputLimit taken) = ⊥
IsRefusal fault x (PageLimit allotted) = ⊥
IsRefusal fault x (NoVersion last) = ⊥

module _ {X : Type 0} (i : IndexGhosts X) where
  -- The image holds a history that goes on from this one.
  pub record HoldsFrom (params : Params) (first : History) (x : Image) : Type 0 where
    pub kept : History
    pub holds : Holds i x params kept
    pub begins : GoesOnFrom first kept

  -- The image holds a history that goes on from the first and of which the second goes on.
  pub record HoldsBetween (params : Params) (first second : History) (x : Image) : Type 0 where
    pub kept : History
    pub holds : Holds i x params kept
    pub begins : GoesOnFrom first kept
    pub within : GoesOnFrom kept second

  -- no warehouse is there, or one with this history
  abbrev pub IsEmptyOrHolds : Params → History → Image → Type 0
  IsEmptyOrHolds params h x = (is_empty x ≡ true) ⊎ Holds i x params h

  -- no warehouse is there, or one with a first part of this history
  abbrev pub IsEmptyOrPart : Params → History → Image → Type 0
  IsEmptyOrPart params whole x = (is_empty x ≡ true) ⊎ HoldsBetween params [] whole x

  -- From the one list of moments to the other a warehouse was made, as far as to the moments amid, and then it was loaded: a crash
  -- before these leaves what it might have left, no warehouse, or a new one, and later one with a first part of this history.
  pub record Loads (params : Params) (whole : History) (old new : List Moment) : Type 0 where
    pub amid : List Moment
    pub made : LeavesOnly (IsEmptyOrHolds params []) old amid
    pub there : LeavesEach (λ x. Holds i x params []) amid
    pub loaded : LeavesOnly (HoldsBetween params [] whole) amid new

  -- It was made and loaded, or it was at most made.
  abbrev pub MakesAndLoads : Params → History → List Moment → List Moment → Type 0
  MakesAndLoads params whole old new = LeavesOnly (IsEmptyOrHolds params []) old new ⊎ Loads params whole old new

module _ {D : Type 0} (g : Ghosts D) where
  -- The run was refused with its cause. A crash at any moment left what it might have left before, or a disk that stands for the same pages.
  -- Unless the device failed the disk stands for them too, and a crash now leaves no more than it might have left before, or that disk.
  pub record Refuses (fault : Image → ℕ → Type 0) (old : D) (ran : Ran D) : Type 0 where
    pub cause : IsRefusal fault (g.image old) ran.status
    pub moments : (pages : PageList) → SettlesTo (g.image old) pages → LeavesOnly (λ x. SettlesTo x pages) (g.moments old) (g.moments ran.disk)
    pub stands : ran.status ≢ DiskFault → StandsAlike (g.image old) (g.image ran.disk)
    pub left : ran.status ≢ DiskFault → (x : Image) → MayBeLeftNow (g.moments ran.disk) x → MayBeLeftNow (g.moments old) x ⊎ (x ≡ g.image ran.disk)

  -- The disk holds what is kept of this history, and so does each image that a crash now may leave.
  pub record SurelyHolds (content : Content) (params : Params) (h : History) (d : D) : Type 0 where
    pub holds : IsTrue (g.tells d) × content.holds params h (g.image d)
    pub left : LeavesEach (content.holds params h) (g.moments d)

module _ {D X : Type 0} (g : Ghosts D) (i : IndexGhosts X) where
  -- The disk has a warehouse that holds this history, and so has each image that a crash now may leave.
  abbrev pub HoldsSurely : Params → History → D → Type 0
  HoldsSurely params h d = SurelyHolds g (warehouses i) params h d

  -- The history with which a run begins to answer the rows of an input: the one that the disk holds. Where no row commits, which is known
  -- where the source tells what it has left, queries alone are to find it there.
  abbrev pub BeginsWith : D → Bool → List ℕ → Params → History → Type 0
  BeginsWith d told input params h =
      HoldsHistory g i true d params h ⊎ (IsTrue told × CommitsNothing params input × HoldsHistory g i false d params h)
