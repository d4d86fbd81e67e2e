-- What a disk holds.
use Rattle.std.specs.Prelude.{◌≡◌, ◌≢◌, ℕ, ◌+◌, ◌<◌, ◌≤◌, max, ◌==◌, if◌then◌else◌, List, [], ◌∷◌, ◌++◌, length, slice_index_or, slice_set}
use Rattle.page_disk.specs.declared.disk.Area.{Area}
use Rattle.page_disk.specs.declared.disk.Area.TheVariants.{Pages, Journal}

-- the pages of an area, the page 0 first
abbrev pub PageList : Type 0
PageList = List (List ℕ)

pub record Image : Type 0 where
  pub pages : PageList
  pub journal : PageList

abbrev pub area_of : Area → Image → PageList
area_of Pages x = x.pages
area_of Journal x = x.journal

abbrev pub with_area : Area → PageList → Image → Image
with_area Pages pages x = record { pages = pages; journal = x.journal }
with_area Journal pages x = record { pages = x.pages; journal = pages }

-- a page, which past the end has no bytes
abbrev pub page_at : PageList → ℕ → List ℕ
page_at pages page = slice_index_or pages page []

-- the area after a write, which at the end appends
abbrev pub written_at : PageList → ℕ → List ℕ → PageList
written_at pages page bytes = if page == length pages then pages ++ bytes ∷ [] else slice_set pages page bytes

-- Each page has 4096 bytes.
abbrev pub AreWhole : PageList → Type 0
AreWhole pages = (page : ℕ) → page < length pages → length (page_at pages page) ≡ 4096

-- The areas differ at most in this page, which may be new.
pub record DifferAt (page : ℕ) (old new : PageList) : Type 0 where
  pub no_shorter : length old ≤ length new
  pub no_longer : length new ≤ max (length old) (page + 1)
  pub others : (p : ℕ) → p ≢ page → p < length old → page_at new p ≡ page_at old p

-- The images differ at most in this page of this area.
abbrev pub ImagesDifferAt : Area → ℕ → Image → Image → Type 0
ImagesDifferAt Pages page old new = DifferAt page old.pages new.pages × (new.journal ≡ old.journal)
ImagesDifferAt Journal page old new = (new.pages ≡ old.pages) × DifferAt page old.journal new.journal
