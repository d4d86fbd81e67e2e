-- The pages that a disk stands for.
use Rattle.std.specs.Prelude.{◌≡◌, ◌⊎◌, ℕ, ◌≤◌, true, false, length}
use Rattle.page_disk.specs.Image.{PageList, Image}
use Rattle.redo_journal.specs.Gates.{is_open, is_empty, gate_of}
use Rattle.redo_journal.specs.declared.gate.Gate.TheVariants.{Idle, Armed}
use Rattle.redo_journal.specs.Placing.{ImageList, map_of, ArePlaced}
use Rattle.redo_journal.specs.Groups.{HoldsImages, BreaksRulesAt}
use Rattle.redo_journal.specs.Pending.{SameBody}

-- The journal holds images, and with them in their places the Pages area is this one.
pub record HoldsPages (x : Image) (pages : PageList) : Type 0 where
  pub images : ImageList
  pub held : HoldsImages x images
  pub placed : ArePlaced (map_of images) x.pages pages

-- The pages that a warehouse on this disk stands for: those of the Pages area where the journal's gate is
-- closed, and else those with the journal's images in their places.
pub record SettlesTo (x : Image) (pages : PageList) : Type 0 where
  pub made : is_empty x ≡ false
  pub has_gate : 1 ≤ length x.journal
  pub settled : ((is_open x.journal ≡ false) × (pages ≡ x.pages)) ⊎ ((is_open x.journal ≡ true) × HoldsPages x pages)

-- A disk stands for one list of pages.
abbrev pub SettlesToOne : Type 0
SettlesToOne = (x : Image) (pages others : PageList) → SettlesTo x pages → SettlesTo x others → pages ≡ others

-- An idle disk stands for its Pages area.
abbrev pub IdleSettles : Type 0
IdleSettles = (x : Image) → gate_of x ≡ Idle → SettlesTo x x.pages

-- A disk whose open journal holds images stands for some pages.
abbrev pub ArmedSettles : Type 0
ArmedSettles = (x : Image) (images : ImageList) → gate_of x ≡ Armed → HoldsImages x images → (pages : PageList) × SettlesTo x pages

-- No journal both holds images and breaks its rules.
abbrev pub NeverHoldsAndBreaks : Type 0
NeverHoldsAndBreaks = (x : Image) (images : ImageList) (page : ℕ) → HoldsImages x images → BreaksRulesAt x page → ⊥

-- A journal first breaks its rules at one page.
abbrev pub BreaksAtOne : Type 0
BreaksAtOne = (x : Image) (page other : ℕ) → BreaksRulesAt x page → BreaksRulesAt x other → page ≡ other

-- All images of the journal, so many, are in their places, and its gate is closed.
pub record IsReplayed (old : Image) (count : ℕ) (new : Image) : Type 0 where
  pub images : ImageList
  pub held : HoldsImages old images
  pub all : count ≡ length images
  pub placed : ArePlaced (map_of images) old.pages new.pages
  -- What stands behind the gate stays.
  pub behind : SameBody old.journal new.journal
  pub idle : gate_of new ≡ Idle
