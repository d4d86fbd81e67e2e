-- The parts of a warehouse on a disk, each of which takes the ones before it, and the first of them that is broken.
use Rattle.std.specs.Prelude.{◌≡◌, ◌⊎◌, ℕ, false, List, length}
use Rattle.std.specs.List.{All}
use Rattle.bw_types.specs.History.{History, changes, last_version}
use Rattle.bw_types.specs.declared.dated.Dated.{Dated}
use Rattle.bw_types.specs.declared.params.Params.{Params}
use Rattle.page_disk.specs.Image.{Image, PageList}
use Rattle.ports.specs.Pages.{PageMap}
use Rattle.page_layout.specs.declared.meta.Meta.{Meta}
use Rattle.redo_journal.specs.Gates.{is_empty}
use Rattle.redo_journal.specs.Settled.{SettlesTo}
use Rattle.page_space.specs.Space.{HoldsSpace}
use Rattle.object_table.specs.Stands.{TableStands}
use Rattle.dom_index.specs.declared.index.DomIndex.{Ghosts}
use Rattle.corner_forest.specs.Entries.{root_count}
use Rattle.page_warehouse.specs.Holds.{Holds, table_form}
use Rattle.image_check.specs.Judging.{IsKept}
use Rattle.image_check.specs.Telling.{IsToldBy}

-- Part 1: the disk is not empty, and stands for some pages: its journal keeps its rules.
abbrev pub HasJournal : Image → Type 0
HasJournal x = (pages : PageList) × SettlesTo x pages

-- Part 2: page 1 is a superblock, and page 2 a meta page with as many roots as the params ask for, by which no more pages are
-- given out than there are and than the params allow.
pub record AreRoots (x : Image) (params : Params) (meta : Meta) (pages : PageMap) : Type 0 where
  pub space : HoldsSpace x params meta pages ⊥
  pub roots : length meta.roots.items ≡ root_count params

-- Part 3: the pages hold the object table, and its lives tell a history with the meta page's last version.
pub record IsTable (x : Image) (params : Params) (meta : Meta) (pages : PageMap) (found : List Dated) (h : History) : Type 0 where
  pub roots : AreRoots x params meta pages
  pub table : TableStands (table_form meta) pages meta.table found
  pub told : IsToldBy h found meta.version

-- Part 4: that history is lawful, its lives are those of the table, in the earlier form each of them its id's first, and the meta page
-- tells of it.
pub record IsHistory (x : Image) (params : Params) (meta : Meta) (pages : PageMap) (found : List Dated) (h : History) : Type 0 where
  pub table : IsTable x params meta pages found h
  pub kept : IsKept params meta found h
  pub first : meta.lives ≡ 0 → All (λ d. d.life ≡ 1) found

-- The parts as far as one are there.
abbrev pub HasRoots : Image → Type 0
HasRoots x = (params : Params) × (meta : Meta) × (pages : PageMap) × AreRoots x params meta pages

abbrev pub HasTable : Image → Type 0
HasTable x = (params : Params) × (meta : Meta) × (pages : PageMap) × (found : List Dated) × (h : History) × IsTable x params meta pages found h

abbrev pub HasHistory : Image → Type 0
HasHistory x = (params : Params) × (meta : Meta) × (pages : PageMap) × (found : List Dated) × (h : History) × IsHistory x params meta pages found h

module _ {X : Type 0} (g : Ghosts X) where
  -- Part 5: the trees stand for that history and are balanced, no page is in two places, and the free pages are in order.
  abbrev pub HoldsOne : Image → Type 0
  HoldsOne x = (params : Params) × (h : History) × Holds g x params h

  -- The part of this number is the first that is broken.
  abbrev pub IsBrokenAt : ℕ → Image → Type 0
  IsBrokenAt n x =
      ((n ≡ 1) × (is_empty x ≡ false) × (HasJournal x → ⊥))
      ⊎ (((n ≡ 2) × HasJournal x × (HasRoots x → ⊥))
      ⊎ (((n ≡ 3) × HasRoots x × (HasTable x → ⊥))
      ⊎ (((n ≡ 4) × HasTable x × (HasHistory x → ⊥))
      ⊎ ((n ≡ 5) × HasHistory x × (HoldsOne x → ⊥)))))

  -- The disk holds a history with this last version and so many adds and withdrawals.
  pub record IsGood (x : Image) (version rows : ℕ) : Type 0 where
    pub params : Params
    pub history : History
    pub holds : Holds g x params history
    pub last : version ≡ last_version history
    pub count : rows ≡ length (changes history)
