-- The pages that are read.
use Rattle.std.specs.Prelude.{◌≡◌, ℕ, ◌+◌, ◌<◌, max, List, Option, Some, None, length}
use Rattle.page_disk.specs.declared.disk.Area.{Area}
use Rattle.page_disk.specs.declared.disk.Area.TheVariants.{Pages, Journal}
use Rattle.page_disk.specs.Image.{PageList, Image, area_of, page_at}
use Rattle.redo_journal.specs.Placing.{with_images}
use Rattle.redo_journal.specs.Settled.{SettlesTo}
use Rattle.settled_pages.specs.Places.{images_in, place_in}
use Rattle.settled_pages.specs.declared.places.ImagePlace.{ImagePlace}
use Rattle.settled_pages.specs.declared.settled.SettledPages.{SettledPages}

-- the pages of a disk with this image: its Pages area, with the journal's images in their places
abbrev pub pages_shown : Image → SettledPages → PageList
pages_shown x settled = with_images x.pages (images_in x.journal settled.places.items)

-- the area, and the page in it, at which the bytes of a page stand
abbrev pub source_of : Option ℕ → ℕ → Area × ℕ
source_of None page = (Pages, page)
source_of (Some place) page = (Journal, place)

-- The bytes of a page stand there.
pub record StandsAt (x : Image) (pages : PageList) (page : ℕ) (source : Area × ℕ) : Type 0 where
  pub within : source.1 < length (area_of source.0 x)
  pub bytes : page_at pages page ≡ page_at (area_of source.0 x) source.1

-- These pages reach to the end of an area of this length, or past that to the last image, and the bytes of
-- each page stand in the journal where it has an image there, and else in the Pages area.
pub record AreFound (x : Image) (pages : PageList) (area last : ℕ) (places : List ImagePlace) : Type 0 where
  pub end : length pages ≡ max area (last + 1)
  pub stands : (page : ℕ) → page < length pages → StandsAt x pages page (source_of (place_in places page) page)

-- The pages of this disk are found by it.
abbrev pub Finds : SettledPages → Image → Type 0
Finds settled x = AreFound x (pages_shown x settled) settled.area settled.last settled.places.items

-- It was read from this disk, which stands for the pages that it shows.
pub record IsOf (x : Image) (settled : SettledPages) : Type 0 where
  pub settles : SettlesTo x (pages_shown x settled)
  pub finds : Finds settled x
