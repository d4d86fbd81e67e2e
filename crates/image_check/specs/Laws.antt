-- What the parts of a warehouse tell of one another.
use Rattle.std.specs.Prelude.{◌≡◌, ℕ, false}
use Rattle.page_disk.specs.Image.{Image}
use Rattle.redo_journal.specs.Gates.{is_empty}
use Rattle.dom_index.specs.declared.index.DomIndex.{Ghosts}
use Rattle.image_check.specs.Parts.{HasHistory, HasJournal, HasRoots, HasTable, HoldsOne, IsBrokenAt}

-- A part that is there takes the ones before it, and a disk with one is not empty.
pub record PartsFollow {X : Type 0} (g : Ghosts X) (x : Image) : Type 0 where
  pub history : HoldsOne g x → HasHistory x
  pub table : HasHistory x → HasTable x
  pub roots : HasTable x → HasRoots x
  pub journal : HasRoots x → HasJournal x
  pub made : HasJournal x → is_empty x ≡ false

-- A disk with a broken part holds no history and is not empty, and one part is the first that is broken.
pub record BrokenIsNo {X : Type 0} (g : Ghosts X) (x : Image) : Type 0 where
  pub no : (n : ℕ) → IsBrokenAt g n x → HoldsOne g x → ⊥
  pub made : (n : ℕ) → IsBrokenAt g n x → is_empty x ≡ false
  pub first : (n m : ℕ) → IsBrokenAt g n x → IsBrokenAt g m x → n ≡ m
