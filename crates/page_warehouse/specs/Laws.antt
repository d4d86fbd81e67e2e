-- What is so of every disk that holds a history.
use Rattle.std.specs.Prelude.{◌≡◌, ◌≤◌, []}
use Rattle.bw_types.specs.Fits.{IsInRange}
use Rattle.bw_types.specs.History.{History}
use Rattle.bw_types.specs.declared.params.Params.{Params}
use Rattle.page_disk.specs.Image.{Image, PageList}
use Rattle.page_layout.specs.declared.meta.Meta.{Meta}
use Rattle.ports.specs.Pages.{PageMap}
use Rattle.redo_journal.specs.Settled.{SettlesTo}
use Rattle.object_table.specs.Lives.{table_lives}
use Rattle.history_laws.specs.Told.{told}
use Rattle.dom_index.specs.declared.index.DomIndex.{Ghosts}
use Rattle.page_warehouse.specs.Created.{IsNew}
use Rattle.page_warehouse.specs.Holds.{Holds, HoldsTrees, table_form}

-- the history that the object table of these pages tells, up to the version of the meta page
abbrev pub told_by : PageMap → Meta → History
told_by pages meta = told (table_lives (table_form meta) pages meta.table) meta.version

module _ {X : Type 0} (g : Ghosts X) where
  -- A new warehouse holds the empty history.
  abbrev pub NewHoldsNothing : Type 0
  NewHoldsNothing = (x : Image) (params : Params) → IsInRange params → params.dims ≤ g.DIMS → IsNew params x → Holds g x params []

  -- What holds the history holds it as far as queries read.
  abbrev pub HoldsForQueries : Type 0
  HoldsForQueries = (x : Image) (params : Params) (h : History) → Holds g x params h → HoldsTrees g x params h

  -- A disk holds a history by the pages that it stands for.
  abbrev pub HoldsByPages : Type 0
  HoldsByPages = (x y : Image) (pages : PageList) (params : Params) (h : History) → SettlesTo x pages → SettlesTo y pages
      → Holds g x params h → Holds g y params h

  abbrev pub HoldsTreesByPages : Type 0
  HoldsTreesByPages = (x y : Image) (pages : PageList) (params : Params) (h : History) → SettlesTo x pages → SettlesTo y pages
      → HoldsTrees g x params h → HoldsTrees g y params h

  -- The table of a disk that holds a history tells it.
  abbrev pub TableTells : Type 0
  TableTells = (x : Image) (params : Params) (h : History) → (held : Holds g x params h) → told_by held.pages held.meta ≡ h

  -- A disk holds one history at most, under one choice of params.
  abbrev pub HoldsOneHistory : Type 0
  HoldsOneHistory = (x : Image) (params others : Params) (h k : History) → Holds g x params h → Holds g x others k
      → (params ≡ others) × (h ≡ k)
