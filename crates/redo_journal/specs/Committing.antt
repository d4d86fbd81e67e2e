-- A disk between two phases of a commit or of a replay.
use Rattle.std.specs.Prelude.{◌≡◌, ◌⊎◌, ◌≤◌, Bool, true, false, length}
use Rattle.page_disk.specs.Image.{PageList, Image}
use Rattle.redo_journal.specs.Gates.{is_open, is_empty}
use Rattle.redo_journal.specs.Groups.{HoldsImages}
use Rattle.redo_journal.specs.Placing.{ImageList, map_of, ArePlaced}
use Rattle.redo_journal.specs.Settled.{SettlesTo}

-- A warehouse whose journal has a gate that is so.
pub record HasGate (x : Image) (opens : Bool) : Type 0 where
  pub made : is_empty x ≡ false
  pub has_gate : 1 ≤ length x.journal
  pub gate : is_open x.journal ≡ opens

-- The gate is open before a journal that holds these images.
pub record IsArmed (images : ImageList) (x : Image) : Type 0 where
  pub gate : HasGate x true
  pub held : HoldsImages x images

-- The journal holds these images and the gate may stand either way.
pub record IsHeld (images : ImageList) (x : Image) : Type 0 where
  pub made : is_empty x ≡ false
  pub has_gate : 1 ≤ length x.journal
  pub held : HoldsImages x images

-- All images are in their places, behind the gate that is open still.
pub record IsDone (images : ImageList) (x : Image) : Type 0 where
  pub made : is_empty x ≡ false
  pub has_gate : 1 ≤ length x.journal
  pub held : HoldsImages x images
  pub placed : ArePlaced (map_of images) x.pages x.pages

-- The disk stands for the one pages or for the other.
abbrev pub BeforeOrAfter : PageList → PageList → Image → Type 0
BeforeOrAfter before after x = SettlesTo x before ⊎ SettlesTo x after
