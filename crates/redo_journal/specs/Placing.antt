-- Images of pages, and an area in which they are in their places.
use Rattle.std.specs.Prelude.{◌≡◌, ◌⊎◌, ℕ, ◌+◌, ◌<◌, ◌≤◌, max, IsSome, unwrap_or, List, [], ◌∷◌, length}
use Rattle.ports.specs.Pages.{PageMap, empty_map, put_page}
use Rattle.page_disk.specs.Image.{PageList, page_at, written_at}

-- pages, each with its home and then the bytes that it is to have there
abbrev pub ImageList : Type 0
ImageList = List (ℕ × List ℕ)

-- where the images belong
abbrev pub homes_of : ImageList → List ℕ
homes_of [] = []
homes_of (image ∷ images) = image.0 ∷ homes_of images

-- what the images hold
abbrev pub bytes_of : ImageList → PageList
bytes_of [] = []
bytes_of (image ∷ images) = image.1 ∷ bytes_of images

-- the image of each page that has one
abbrev pub map_of : ImageList → PageMap
map_of [] = empty_map
map_of (image ∷ images) = put_page (map_of images) image.0 image.1

-- what a page is to hold: its image where it has one, and else what it holds already
abbrev pub placed_at : PageMap → PageList → ℕ → List ℕ
placed_at images pages page = unwrap_or (images page) (page_at pages page)

-- All images are in their places, and no other page differs.
pub record ArePlaced (images : PageMap) (old new : PageList) : Type 0 where
  -- The area reaches from the old end ..
  pub no_shorter : length old ≤ length new
  -- .. as far as the last home,
  pub reached : (page : ℕ) → IsSome (images page) → page < length new
  -- and no further: each new page has an image.
  pub no_longer : (page : ℕ) → length old ≤ page → page < length new → IsSome (images page)
  pub pages : (page : ℕ) → page < length new → page_at new page ≡ placed_at images old page

-- The homes ascend from above the last one, and each is at most this length or directly follows the
-- home before it.
abbrev pub AreInReach : ℕ → ℕ → List ℕ → Type 0
AreInReach len last [] = Unit {0}
AreInReach len last (home ∷ homes) = (last < home) × ((home ≤ len) ⊎ (home ≡ last + 1)) × AreInReach len home homes

-- The homes ascend from above the last one.
abbrev pub Ascend : ℕ → List ℕ → Type 0
Ascend last [] = Unit {0}
Ascend last (home ∷ homes) = (last < home) × Ascend home homes

-- In this order each home is at most the length that the area has by then.
abbrev pub AreWritable : ℕ → List ℕ → Type 0
AreWritable len [] = Unit {0}
AreWritable len (home ∷ homes) = (home ≤ len) × AreWritable (max len (home + 1)) homes

-- the area after each image was written to its home, in this order
abbrev pub with_images : PageList → ImageList → PageList
with_images pages [] = pages
with_images pages (image ∷ images) = with_images (written_at pages image.0 image.1) images

-- the area after these pages were written in a row, from this page on
abbrev pub with_row : PageList → ℕ → PageList → PageList
with_row pages at [] = pages
with_row pages at (bytes ∷ row) = with_row (written_at pages at bytes) (at + 1) row
