-- A disk between two phases of a call.
use Rattle.std.specs.Prelude.{◌≡◌, ◌⊎◌, ℕ, ◌≤◌, true, false, List, [], ◌∷◌, length}
use Rattle.page_disk.specs.Image.{Image, page_at}
use Rattle.page_disk.specs.Moment.{Moment, settled_moment}
use Rattle.redo_journal.specs.Gates.{is_open, is_empty, IsCreated}

-- The newest moment is that of a sync which succeeded.
abbrev pub SettledAt : List Moment → Image → Type 0
SettledAt [] image = Unit {0}
SettledAt (m ∷ earlier) image = m ≡ settled_moment image

-- The Pages area has a gate, and it is closed.
abbrev pub IsShut : Image → Type 0
IsShut x = (1 ≤ length x.pages) × (is_open x.pages ≡ false)

-- The Journal area has a gate, and it is closed.
abbrev pub HasIdleJournal : Image → Type 0
HasIdleJournal x = (1 ≤ length x.journal) × (is_open x.journal ≡ false)

-- All is written but the open creation gate.
pub record IsWritten (superblock meta : List ℕ) (x : Image) : Type 0 where
  pub len : 3 ≤ length x.pages
  pub superblock_is : page_at x.pages 1 ≡ superblock
  pub meta_is : page_at x.pages 2 ≡ meta

abbrev pub IsEmptyOrCreated : List ℕ → List ℕ → Image → Type 0
IsEmptyOrCreated superblock meta x = (is_empty x ≡ true) ⊎ IsCreated superblock meta x
