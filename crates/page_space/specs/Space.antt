-- A committed space on a disk.
use Rattle.std.specs.Prelude.{◌≡◌, ℕ, ◌≤◌, List, length}
use Rattle.bw_types.specs.declared.params.Params.{Params}
use Rattle.bw_types.specs.Fits.{IsInRange}
use Rattle.ports.specs.Pages.{PageMap}
use Rattle.page_disk.specs.Image.{PageList, Image, page_at}
use Rattle.page_layout.specs.Super.{super_page}
use Rattle.page_layout.specs.Meta.{IsMeta, IsTyped, meta_page}
use Rattle.page_layout.specs.declared.meta.Meta.{Meta}
use Rattle.redo_journal.specs.Settled.{SettlesTo}
use Rattle.page_space.specs.InUse.{pages_in_use}
use Rattle.page_space.specs.Chain.{FreeInOrder}

-- the page that a superblock with these params is spelled by
abbrev pub params_page : Params → List ℕ
params_page params = super_page (record { params = params })

-- These bytes are those of a superblock with these params.
pub record SpellsParams (bytes : List ℕ) (params : Params) : Type 0 where
  pub rules : IsInRange params
  pub spelled : bytes ≡ params_page params

-- These bytes are those of this meta page.
pub record SpellsMeta (bytes : List ℕ) (meta : Meta) : Type 0 where
  pub rules : IsMeta meta
  pub typed : IsTyped meta
  pub spelled : bytes ≡ meta_page meta

-- The params are in range, and the meta page keeps its rules, by which no more pages are given out than
-- the params allow.
pub record AreRoots (params : Params) (meta : Meta) : Type 0 where
  pub in_range : IsInRange params
  pub rules : IsMeta meta
  pub typed : IsTyped meta
  pub few : meta.allotted ≤ params.pages

-- These pages are a space: with these params, this meta page and this map of the pages in use. Where
-- `ordered` holds, its free pages are in order.
pub record IsSpace (pages : PageList) (params : Params) (meta : Meta) (map : PageMap) (ordered : Type 0) : Type 0 where
  pub superblock : SpellsParams (page_at pages 1) params
  pub roots : SpellsMeta (page_at pages 2) meta
  pub there : meta.allotted ≤ length pages
  pub few : meta.allotted ≤ params.pages
  pub in_use : map ≡ pages_in_use (page_at pages) meta.allotted
  pub in_order : ordered → FreeInOrder (page_at pages) meta.allotted meta.free

-- The pages that this disk stands for are such a space.
pub record HoldsSpace (x : Image) (params : Params) (meta : Meta) (map : PageMap) (ordered : Type 0) : Type 0 where
  pub pages : PageList
  pub settled : SettlesTo x pages
  pub space : IsSpace pages params meta map ordered
