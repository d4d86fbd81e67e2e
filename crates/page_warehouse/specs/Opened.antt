-- What an opening asks of the superblock and the meta page beside their spelling, and what it leaves.
use Rattle.std.specs.Prelude.{◌≡◌, ◌≢◌, ◌⊎◌, ℕ, ◌+◌, ◌^◌, ◌<◌, ◌≤◌, true, IsTrue, length, Result, Ok, Err}
use Rattle.bw_types.specs.History.{History}
use Rattle.bw_types.specs.declared.params.Params.{Params}
use Rattle.page_disk.specs.Image.{Image}
use Rattle.page_disk.specs.Since.{LeavesNow}
use Rattle.page_disk.specs.declared.disk.Disk.{Ghosts}
use Rattle.redo_journal.specs.Gates.{is_empty}
use Rattle.redo_journal.specs.Settled.{SettlesTo}
use Rattle.page_layout.specs.declared.meta.Meta.{Meta}
use Rattle.page_space.specs.Faults.{AtBadJournal, AtDamaged, AtEmpty}
use Rattle.page_space.specs.Opening.{StandsAlike, StandsDamagedAt}
use Rattle.page_space.specs.Settling.{IsBadAt}
use Rattle.page_space.specs.Space.{HoldsSpace}
use Rattle.ports.specs.Pages.{PageMap}
use Rattle.page_space.specs.declared.refusal.OpenFault.{OpenFault}
use Rattle.page_space.specs.declared.refusal.OpenFault.TheVariants.{Disk, NoMemory}
use Rattle.page_space.specs.declared.refusal.OpenRefused.{OpenRefused}
use Rattle.corner_forest.specs.Entries.{root_count}
use Rattle.dom_index.specs.declared.index.DomIndex.{Ghosts as IndexGhosts}
use Rattle.page_warehouse.specs.Holds.{Holds, HoldsTrees}
use Rattle.page_warehouse.specs.Shown.{disk_in, meta_in, params_in}
use Rattle.page_warehouse.specs.declared.state.Warehouse.{Warehouse}

-- The numbers of the meta page go together: as many roots as the params ask for, each add, withdrawal and version an event, no
-- more events than allowed, and less mass than the limit.
pub record GoTogether (params : Params) (meta : Meta) : Type 0 where
  pub roots : length meta.roots.items ≡ root_count params
  pub rows : meta.version + meta.rows ≡ meta.events
  pub events : meta.events ≤ params.events
  pub mass : meta.mass < 2 ^ 126

-- This page of a space is the one for which it is no warehouse over an index of so many dimensions: the superblock, or behind one the
-- meta page.
pub record IsNoWarehouseAt (dims : ℕ) (x : Image) (page : ℕ) : Type 0 where
  pub params : Params
  pub meta : Meta
  pub pages : PageMap
  pub space : HoldsSpace x params meta pages ⊥
  pub at : ((page ≡ 1) × (dims < params.dims)) ⊎ ((page ≡ 2) × (params.dims ≤ dims) × (GoTogether params meta → ⊥))

-- What an opening may call damaged: a page for which there is no space, or behind one no warehouse.
abbrev pub IsDamagedToOpen : ℕ → Image → ℕ → Type 0
IsDamagedToOpen dims x page = StandsDamagedAt x page ⊎ IsNoWarehouseAt dims x page

module _ {W D : Type 0} where
  -- the disk after an opening
  abbrev pub opened_disk : (W → D) → Result W (OpenRefused D) → D
  opened_disk disk (Ok w) = disk w
  opened_disk disk (Err refused) = refused.disk

module _ {D X : Type 0} (g : Ghosts D) (i : IndexGhosts X) where
  -- The warehouse is the one of this disk. Its own disk stands for the same pages, so that it holds whatever history the disk held,
  -- and a crash from now on leaves that disk's image and no other.
  pub record IsOpenedFrom (disk : D) (w : Warehouse D X g i) : Type 0 where
    pub whole : IsTrue (g.tells disk) → (pages : PageMap) × HoldsSpace (g.image disk) (params_in w) (meta_in w) pages ⊥
    pub settles : IsTrue (g.tells disk) → SettlesTo (g.image disk) (g.image (disk_in w)).pages
    pub stands : IsTrue (g.tells disk) → StandsAlike (g.image disk) (g.image (disk_in w))
    pub here : IsTrue (g.tells disk) → (pages : PageMap) × HoldsSpace (g.image (disk_in w)) (params_in w) (meta_in w) pages ⊥
    pub numbers : ((params_in w).dims ≤ i.DIMS) × GoTogether (params_in w) (meta_in w)
    pub holds : (params : Params) (h : History) → IsTrue (g.tells disk) → Holds i (g.image disk) params h
        → (params_in w ≡ params) × Holds i (g.image (disk_in w)) params h
    pub holds_trees : (params : Params) (h : History) → IsTrue (g.tells disk) → HoldsTrees i (g.image disk) params h
        → (params_in w ≡ params) × HoldsTrees i (g.image (disk_in w)) params h
    pub settled : LeavesNow (g.moments (disk_in w)) (g.image (disk_in w))

  -- The disk is refused for a fault that it has, or for want of memory: where it holds a history, no page of it is at fault. What
  -- comes back stands for the same pages and holds the same history, and a crash from now on leaves its image and no other,
  -- unless the device failed.
  pub record IsRefusedFor (disk : D) (fault : OpenFault) (back : D) : Type 0 where
    pub empty : AtEmpty fault (IsTrue (g.tells disk) → is_empty (g.image disk) ≡ true)
    pub bad_journal : AtBadJournal fault (λ page. IsTrue (g.tells disk) → IsBadAt (g.image disk) page)
    pub damaged : AtDamaged fault (λ page. IsTrue (g.tells disk) → IsDamagedToOpen i.DIMS (g.image disk) page)
    pub sound : IsTrue (g.tells disk) → (params : Params) (h : History) → HoldsTrees i (g.image disk) params h
        → (fault ≡ Disk) ⊎ (fault ≡ NoMemory)
    pub stands : fault ≢ Disk → IsTrue (g.tells disk) → StandsAlike (g.image disk) (g.image back)
    pub kept : fault ≢ Disk → IsTrue (g.tells disk) → (params : Params) (h : History) → Holds i (g.image disk) params h
        → Holds i (g.image back) params h
    pub settled : fault ≢ Disk → IsTrue (g.tells disk) → LeavesNow (g.moments back) (g.image back)
