-- Where the journal keeps the images of pages.
use Rattle.std.specs.Prelude.{ℕ, ◌+◌, ◌<◌, ◌≤◌, ◌==◌, length, slice_index_or, if◌then◌else◌, List, [], ◌∷◌, Option, Some, None}
use Rattle.std.specs.List.Sorted.{IsNonDecreasingBy}
use Rattle.std.proofs.Props.{props}
use Rattle.page_disk.specs.Image.{PageList, page_at}
use Rattle.redo_journal.specs.Placing.{Ascend, ImageList}
use Rattle.settled_pages.specs.declared.places.ImagePlace.{ImagePlace}

-- the pages that have images
abbrev pub homes_in : List ImagePlace → List ℕ
homes_in [] = []
homes_in (image ∷ images) = image.home ∷ homes_in images

-- the images, as this journal has them
abbrev pub images_in : PageList → List ImagePlace → ImageList
images_in journal [] = []
images_in journal (image ∷ images) = (image.home, page_at journal image.place) ∷ images_in journal images

-- the places of the images of these homes, which stand in a row from this page of the journal on
abbrev pub places_from : ℕ → List ℕ → List ImagePlace
places_from at [] = []
places_from at (home ∷ homes) = record { home = home; place = at } ∷ places_from (at + 1) homes

-- the place of a page's image, if it has one
abbrev pub place_in : List ImagePlace → ℕ → Option ℕ
place_in [] page = None
place_in (image ∷ images) page = if image.home == page then Some image.place else place_in images page

-- Each image stands before this page of the journal.
abbrev pub AreBefore : ℕ → List ImagePlace → Type 0
AreBefore end [] = Unit {0}
AreBefore end (image ∷ images) = (image.place < end) × AreBefore end images

-- The first k images belong to pages below this one, and the others do not: the images stand in the order of their pages.
pub record IsSplitAt (images : List ImagePlace) (k page : ℕ) : Type 0 where
  pub below : (j : ℕ) (d : ImagePlace) → j < k → j < length images → (slice_index_or images j d).home < page
  pub from : (j : ℕ) (d : ImagePlace) → k ≤ j → j < length images → page ≤ (slice_index_or images j d).home
  pub rises : IsNonDecreasingBy (λ (image : ImagePlace). image.home) images

-- Homes ascend in one way.
pub Ascend-prop : (last : ℕ) (homes : List ℕ) → IsProp (Ascend last homes)
Ascend-prop last [] a b = λ i. tt
Ascend-prop last (home ∷ homes) a b =
    let p : IsProp (last < home) = hlevel props in λ i. (p a.0 b.0 i, Ascend-prop home homes a.1 b.1 i)
