-- The answers of an opening.
use Rattle.std.specs.Prelude.{◌≡◌, ◌⊎◌, ℕ, ◌≤◌, length}
use Rattle.bw_types.specs.declared.params.Params.{Params}
use Rattle.page_disk.specs.Image.{PageList, Image, page_at}
use Rattle.redo_journal.specs.Settled.{SettlesTo}
use Rattle.page_layout.specs.declared.meta.Meta.{Meta}
use Rattle.page_space.specs.InUse.{pages_in_use}
use Rattle.page_space.specs.Space.{IsSpace, SpellsParams, SpellsMeta}

-- Page 1 of the area is no superblock.
abbrev pub HasNoParams : PageList → Type 0
HasNoParams pages = (params : Params) → SpellsParams (page_at pages 1) params → ⊥

-- Page 2 of the area is no meta page, or by it more pages are given out than the area has or the limit allows.
abbrev pub HasNoMeta : PageList → ℕ → Type 0
HasNoMeta pages limit = (meta : Meta) → SpellsMeta (page_at pages 2) meta → meta.allotted ≤ length pages → meta.allotted ≤ limit → ⊥

-- This page of the area is the one for which it is no space: the superblock, or behind one the meta page.
abbrev pub IsDamagedAt : PageList → ℕ → Type 0
IsDamagedAt pages page =
    ((page ≡ 1) × HasNoParams pages)
    ⊎ ((page ≡ 2) × ((params : Params) × (SpellsParams (page_at pages 1) params × HasNoMeta pages params.pages)))

-- The pages that the disk stands for are damaged at this one.
abbrev pub StandsDamagedAt : Image → ℕ → Type 0
StandsDamagedAt x page = (pages : PageList) × (SettlesTo x pages × IsDamagedAt pages page)

-- Whatever pages the one disk stands for, the other stands for too.
abbrev pub StandsAlike : Image → Image → Type 0
StandsAlike old new = (pages : PageList) → SettlesTo old pages → SettlesTo new pages

-- These pages are a space.
abbrev pub IsSomeSpace : PageList → Type 0
IsSomeSpace pages = (params : Params) × ((meta : Meta) × IsSpace pages params meta (pages_in_use (page_at pages) meta.allotted) ⊥)

-- The pages that the disk stands for are a space.
abbrev pub StandsWhole : Image → Type 0
StandsWhole x = (pages : PageList) × (SettlesTo x pages × IsSomeSpace pages)
