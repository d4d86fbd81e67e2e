-- The place of a page's image in a list that ascends.
use Rattle.std.proofs.Common.{◌==◌, ap, sym, ◌∙◌, inl, inr, ◌≡◌, ◌≢◌, ℕ, zero, suc, ◌<◌, ◌≤◌, Some, None, List, [], ◌∷◌, length, slice_index_or, refl, arith}
use Rattle.std.specs.Bool.{then_some}
use Rattle.std.proofs.lemmas.Bool.{cases_Bool, cases_lt, eqb-true, eqb-false}
use Rattle.std.proofs.lemmas.Grind.{common_steps}
use Rattle.std.specs.List.Sorted.{IsNonDecreasingBy}
use Rattle.page_disk.specs.Image.{PageList, page_at}
use Rattle.redo_journal.specs.Placing.{Ascend, map_of}
use Rattle.settled_pages.specs.Places.{AreBefore, IsSplitAt, homes_in, images_in, place_in}
use Rattle.settled_pages.specs.declared.places.ImagePlace.{ImagePlace}

-- Homes above the last one are above it, wherever they stand.
ascend_above : (last : ℕ) (images : List ImagePlace) → Ascend last (homes_in images) → (j : ℕ) (d : ImagePlace) → j < length images
    → last < (slice_index_or images j d).home
ascend_above last [] above j d within = absurd (omega arith)
ascend_above last (image ∷ images) above zero d within = above.0
ascend_above last (image ∷ images) above (suc j) d within = omega (arith, above.0, ascend_above image.home images above.1 j d (omega arith))

pub ascend_rises : (last : ℕ) (images : List ImagePlace) → Ascend last (homes_in images) → IsNonDecreasingBy (λ (image : ImagePlace). image.home) images
ascend_rises last [] above i j d le within = absurd (omega arith)
ascend_rises last (image ∷ images) above zero zero d le within = omega arith
ascend_rises last (image ∷ images) above zero (suc j) d le within = omega (arith, ascend_above image.home images above.1 j d (omega arith))
ascend_rises last (image ∷ images) above (suc i) zero d le within = absurd (omega arith)
ascend_rises last (image ∷ images) above (suc i) (suc j) d le within = ascend_rises image.home images above.1 i j d (omega arith) (omega arith)

-- The first image of the page is the one at k.
place_found : (images : List ImagePlace) (k page : ℕ) (d : ImagePlace) → ((j : ℕ) → j < k → (slice_index_or images j d).home < page) → k < length images
    → (slice_index_or images k d).home ≡ page → place_in images page ≡ Some (slice_index_or images k d).place
place_found [] k page d below within same = absurd (omega arith)
place_found (image ∷ images) zero page d below within same = grind (arith, common_steps)
place_found (image ∷ images) (suc k) page d below within same =
    grind (arith, common_steps, below 0, place_found images k page d (λ j h. below (suc j) (omega arith)) (omega arith) same)

-- No image is that of the page.
place_missing : (images : List ImagePlace) (page : ℕ) (d : ImagePlace) → ((j : ℕ) → j < length images → (slice_index_or images j d).home ≢ page)
    → place_in images page ≡ None
place_missing [] page d others = refl
place_missing (image ∷ images) page d others =
    grind (arith, common_steps, others 0, place_missing images page d (λ j h. others (suc j) (omega arith)))

-- What the place of a page's image says of the images.
pub images_none : (journal : PageList) (images : List ImagePlace) (page : ℕ) → place_in images page ≡ None → map_of (images_in journal images) page ≡ None
images_none journal [] page none = refl
images_none journal (image ∷ images) page none = grind (arith, common_steps, images_none journal images page)

pub images_some : (journal : PageList) (images : List ImagePlace) (page place : ℕ) → place_in images page ≡ Some place
    → map_of (images_in journal images) page ≡ Some (page_at journal place)
images_some journal [] page place some = absurd cc
images_some journal (image ∷ images) page place some = grind (arith, common_steps, images_some journal images page place)

pub place_before : (end : ℕ) (images : List ImagePlace) (page place : ℕ) → AreBefore end images → place_in images page ≡ Some place → place < end
place_before end [] page place before some = absurd cc
place_before end (image ∷ images) page place before some = grind (arith, common_steps, before.0, place_before end images page place before.1)

-- At k stands this image.
pub place_looked : {images : List ImagePlace} {k page : ℕ} (image : ImagePlace) → IsSplitAt images k page → k < length images → image ≡ slice_index_or images k image
    → then_some (image.home == page) image.place ≡ place_in images page
place_looked {images} {k} {page} image split within is =
    let here = ap (λ (i : ImagePlace). i.home) is in
    elim (cases_Bool (image.home == page)) [
      | inl same ↦
          let found = place_found images k page image (λ j h. split.below j image h (omega arith)) within (sym here ∙ eqb-true _ _ same) in
          rw same (ap (λ (i : ImagePlace). Some i.place) is ∙ sym found)
      | inr other ↦ rw other (sym (place_missing images page image (λ j h same. elim (cases_lt j k) [
        | inl low ↦ omega (arith, split.below j image low h)
        | inr high ↦ eqb-false _ _ other (omega (arith, split.rises k j image high h, split.from k image (omega arith) within))
      ])))
    ]

pub place_past : {images : List ImagePlace} {k page : ℕ} (d : ImagePlace) → IsSplitAt images k page → length images ≤ k → place_in images page ≡ None
place_past {images} {page = page} d split past = place_missing images page d (λ j h same. omega (arith, split.below j d (omega arith) h))
