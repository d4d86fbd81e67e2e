-- What a warehouse shows.
use Rattle.std.specs.Prelude.{ℕ, Bool, true, false, IsTrue}
use Rattle.bw_types.specs.History.{History}
use Rattle.bw_types.specs.declared.params.Params.{Params}
use Rattle.page_disk.specs.declared.disk.Disk.{Ghosts}
use Rattle.page_layout.specs.declared.meta.Meta.{Meta}
use Rattle.page_space.specs.Shown.{disk_of, meta_of, params_of}
use Rattle.page_space.specs.declared.space.Space.{Space}
use Rattle.dom_index.specs.declared.index.DomIndex.{Ghosts as IndexGhosts}
use Rattle.page_warehouse.specs.Holds.{Holds, HoldsTrees, IsByLives}
use Rattle.page_warehouse.specs.Needs.{charge_of}
use Rattle.page_warehouse.specs.declared.state.Warehouse.{Warehouse}

module _ {D X : Type 0} {g : Ghosts D} {i : IndexGhosts X} where
  -- the disk below it
  abbrev pub disk_in : Warehouse D X g i → D
  disk_in w = disk_of w.space

  -- the committed pages that it reads
  abbrev pub space_in : Warehouse D X g i → Space D g
  space_in w = w.space

  -- what it was made for
  abbrev pub params_in : Warehouse D X g i → Params
  params_in w = params_of w.space

  -- its meta page
  abbrev pub meta_in : Warehouse D X g i → Meta
  meta_in w = meta_of w.space

module _ {D X : Type 0} (g : Ghosts D) (i : IndexGhosts X) where
  -- The disk, where it tells its image, holds the history: whole, or as far as queries read.
  abbrev pub HoldsHistory : Bool → D → Params → History → Type 0
  HoldsHistory true d params h = IsTrue (g.tells d) × Holds i (g.image d) params h
  HoldsHistory false d params h = IsTrue (g.tells d) × HoldsTrees i (g.image d) params h

module _ {D : Type 0} (g : Ghosts D) where
  -- The disk, where it tells its image, has a table by lives.
  abbrev pub HasNewForm : D → Type 0
  HasNewForm d = IsTrue (g.tells d) → IsByLives (g.image d)

  -- the pages that count against the limit on the disk
  abbrev pub disk_charge : D → ℕ
  disk_charge d = charge_of (g.image d)
