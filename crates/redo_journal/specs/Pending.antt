-- What is pending in each phase of a commit, and what a crash in it leaves.
use Rattle.std.specs.Prelude.{◌≡◌, ℕ, ◌<◌, ◌≤◌, true, false, IsSome, None, List, [], ◌∷◌, length}
use Rattle.ports.specs.Pages.{PageMap}
use Rattle.page_disk.specs.Image.{PageList, Image, page_at}
use Rattle.page_disk.specs.Moment.{AreaMoment, Moment, AreaMayBeLeft, is_written}
use Rattle.redo_journal.specs.Gates.{is_open}

-- The newest moment has P. A disk that does not tell its crashes has none.
abbrev pub AtNewest : (Moment → Type 0) → List Moment → Type 0
AtNewest P [] = Unit {0}
AtNewest P (m ∷ earlier) = P m

-- A crash leaves the area as it is here.
abbrev pub LeavesArea : AreaMoment → PageList → Type 0
LeavesArea m pages = (x : PageList) → AreaMayBeLeft m x → x ≡ pages

-- Pages of the journal behind its gate are pending, and nothing else.
pub record BodyPends (start : Image) (m : Moment) : Type 0 where
  pub pages : LeavesArea m.pages start.pages
  pub has_gate : 1 ≤ length m.journal.synced
  pub gate : page_at m.journal.synced 0 ≡ page_at start.journal 0
  pub unwritten : is_written m.journal 0 ≡ false

-- Only the journal's body differs: its gate stands as it stood.
pub record KeepsGate (start x : Image) : Type 0 where
  pub pages : x.pages ≡ start.pages
  pub has_gate : 1 ≤ length x.journal
  pub gate : is_open x.journal ≡ is_open start.journal

-- The two journals have the same pages behind the gate.
pub record SameBody (old new : PageList) : Type 0 where
  pub len : length new ≡ length old
  pub behind : (page : ℕ) → 1 ≤ page → page_at new page ≡ page_at old page

-- Only the journal's gate may differ.
pub record DiffersInGate (start x : Image) : Type 0 where
  pub pages : x.pages ≡ start.pages
  pub body : SameBody start.journal x.journal

-- Pages that have images are pending, and nothing else.
pub record HomesPend (images : PageMap) (start : Image) (m : Moment) : Type 0 where
  pub journal : LeavesArea m.journal start.journal
  pub synced : m.pages.synced ≡ start.pages
  pub longest : (page : ℕ) → length start.pages ≤ page → page < m.pages.greatest → IsSome (images page)
  pub written : (page : ℕ) → page < length start.pages → is_written m.pages page ≡ true → IsSome (images page)

-- Some images are in their places, or torn there: only pages that have images differ.
pub record IsInPlacing (images : PageMap) (start x : Image) : Type 0 where
  pub journal : x.journal ≡ start.journal
  pub no_shorter : length start.pages ≤ length x.pages
  pub no_longer : (page : ℕ) → length start.pages ≤ page → page < length x.pages → IsSome (images page)
  pub others : (page : ℕ) → page < length start.pages → images page ≡ None → page_at x.pages page ≡ page_at start.pages page
