-- Places that are noted one group after another.
use Rattle.std.proofs.Common.{◌≡◌, ℕ, ◌+◌, ◌≤◌, ◌∙◌, ap, sym, refl, List, [], ◌∷◌, ◌++◌, length, arith, append_assoc}
use Rattle.page_disk.specs.Image.{PageList, page_at}
use Rattle.redo_journal.specs.Groups.{images_at, last_of}
use Rattle.redo_journal.specs.Placing.{Ascend, ImageList}
use Rattle.settled_pages.specs.Places.{AreBefore, homes_in, images_in, places_from}
use Rattle.settled_pages.specs.declared.places.ImagePlace.{ImagePlace}

images-append : (journal : PageList) (front back : List ImagePlace) → images_in journal (front ++ back) ≡ images_in journal front ++ images_in journal back
images-append journal [] back = refl
images-append journal (image ∷ front) back = ap (λ (s : ImageList). (image.home, page_at journal image.place) ∷ s) (images-append journal front back)

images-from : (journal : PageList) (at : ℕ) (homes : List ℕ) → images_in journal (places_from at homes) ≡ images_at journal at homes
images-from journal at [] = refl
images-from journal at (home ∷ homes) = ap (λ (s : ImageList). (home, page_at journal at) ∷ s) (images-from journal (at + 1) homes)

homes-append : (front back : List ImagePlace) → homes_in (front ++ back) ≡ homes_in front ++ homes_in back
homes-append [] back = refl
homes-append (image ∷ front) back = ap (λ (s : List ℕ). image.home ∷ s) (homes-append front back)

homes-from : (at : ℕ) (homes : List ℕ) → homes_in (places_from at homes) ≡ homes
homes-from at [] = refl
homes-from at (home ∷ homes) = ap (λ (s : List ℕ). home ∷ s) (homes-from (at + 1) homes)

before-append : (end : ℕ) (front back : List ImagePlace) → AreBefore end front → AreBefore end back → AreBefore end (front ++ back)
before-append end [] back f b = b
before-append end (image ∷ front) back f b = (f.0, before-append end front back f.1 b)

before-from : (end at : ℕ) (homes : List ℕ) → at + length homes ≤ end → AreBefore end (places_from at homes)
before-from end at [] within = tt
before-from end at (home ∷ homes) within = (omega arith, before-from end (at + 1) homes (omega arith))

ascend-append : (last : ℕ) (front back : List ℕ) → Ascend last front → Ascend (last_of last front) back → Ascend last (front ++ back)
ascend-append last [] back f b = b
ascend-append last (home ∷ front) back f b = (f.0, ascend-append home front back f.1 b)

last-append : (last : ℕ) (front back : List ℕ) → last_of last (front ++ back) ≡ last_of (last_of last front) back
last-append last [] back = refl
last-append last (home ∷ front) back = last-append home front back

-- The places of one more group are noted: the images of these homes, from this page of the journal on.
pub record IsNoted (old new : List ImagePlace) (at : ℕ) (homes : List ℕ) : Type 0 where
  pub items : new ≡ old ++ places_from at homes

pub is_noted : (old new : List ImagePlace) (at : ℕ) (homes named : List ℕ) → new ≡ old ++ places_from at named → named ≡ homes → IsNoted old new at homes
is_noted old new at homes named items same = record { items = rw same at items }

module _ {old new : List ImagePlace} {at : ℕ} {homes : List ℕ} (n : IsNoted old new at homes) where
  pub images_more : (journal : PageList) → images_in journal new ≡ images_in journal old ++ images_at journal at homes
  images_more journal = rw (n.items, images-append, images-from) refl

  pub images_on : (journal : PageList) (rest : ImageList) → images_in journal new ++ rest ≡ images_in journal old ++ (images_at journal at homes ++ rest)
  images_on journal rest = ap (λ (s : ImageList). s ++ rest) (images_more journal) ∙ append_assoc (images_in journal old) (images_at journal at homes) rest

  homes_more : homes_in new ≡ homes_in old ++ homes
  homes_more = rw (n.items, homes-append, homes-from) refl

  pub before_more : (end : ℕ) → AreBefore end old → at + length homes ≤ end → AreBefore end new
  before_more end before within = rw n.items (before-append end old (places_from at homes) before (before-from end at homes within))

  pub ascend_more : {last : ℕ} → Ascend 0 (homes_in old) → last ≡ last_of 0 (homes_in old) → Ascend last homes → Ascend 0 (homes_in new)
  ascend_more ascends last_is more = rw homes_more (ascend-append 0 (homes_in old) homes ascends (rw (← last_is) more))

  pub last_more : {last next : ℕ} → last ≡ last_of 0 (homes_in old) → next ≡ last_of last homes → next ≡ last_of 0 (homes_in new)
  last_more last_is next_is = next_is ∙ (ap (λ (k : ℕ). last_of k homes) last_is ∙ (sym (last-append 0 (homes_in old) homes) ∙ ap (last_of 0) (sym homes_more)))
