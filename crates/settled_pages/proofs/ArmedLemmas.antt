-- The pages of a disk whose journal is open.
use Rattle.std.proofs.Common.{◌≡◌, ℕ, ◌+◌, ◌<◌, ◌≤◌, ◌∙◌, ap, subst, refl, inl, inr, max, Option, Some, None, List, [], ◌∷◌, length, unwrap_or, arith}
use Rattle.std.proofs.lemmas.Grind.{common_steps}
use Rattle.page_disk.specs.Image.{PageList, Image, page_at, written_at}
use Rattle.redo_journal.specs.Gates.{gate_of}
use Rattle.redo_journal.specs.declared.gate.Gate.TheVariants.{Armed}
use Rattle.redo_journal.specs.Groups.{HoldsGroups, HoldsImages, last_of}
use Rattle.redo_journal.specs.Placing.{ArePlaced, AreInReach, ImageList, homes_of, map_of, with_images}
use Rattle.redo_journal.proofs.GroupLemmas.{holds_reach}
use Rattle.redo_journal.proofs.PlacingLemmas.{length-written, with_images-placed}
use Rattle.redo_journal.proofs.SettledLemmas.{armed_has, made_pages}
use Rattle.settled_pages.specs.Places.{AreBefore, homes_in, images_in, place_in}
use Rattle.settled_pages.specs.Shown.{IsOf, StandsAt, source_of}
use Rattle.settled_pages.specs.declared.places.ImagePlace.{ImagePlace}
use Rattle.settled_pages.specs.declared.settled.SettledPages.{SettledPages}
use Rattle.settled_pages.proofs.LookupLemmas.{images_none, images_some, place_before}

homes-images : (journal : PageList) (images : List ImagePlace) → homes_of (images_in journal images) ≡ homes_in images
homes-images journal [] = refl
homes-images journal (image ∷ images) = ap (λ (s : List ℕ). image.home ∷ s) (homes-images journal images)

last_above : (len last : ℕ) (homes : List ℕ) → AreInReach len last homes → last ≤ last_of last homes
last_above len last [] reach = omega arith
last_above len last (home ∷ homes) reach = omega (arith, reach.0, last_above len home homes reach.2)

-- The area reaches to its old end, or past that to the last home.
length-placed : (len last : ℕ) (images : ImageList) (pages : PageList) → AreInReach len last (homes_of images) → len ≤ length pages → last < length pages
    → length (with_images pages images) ≡ max (length pages) (last_of last (homes_of images) + 1)
length-placed len last [] pages reach far low = omega arith
length-placed len last (image ∷ images) pages reach far low =
    let within : image.0 ≤ length pages = elim reach.1 [ inl h ↦ omega arith | inr h ↦ omega arith ] in
    let grown = length-written pages image.0 image.1 within in
    let rest = length-placed len image.0 images (written_at pages image.0 image.1) reach.2 (omega arith) (omega arith) in
    omega (arith, rest, grown, last_above len image.0 (homes_of images) reach.2)

-- Where the images are in their places, the bytes of a page stand in the journal or in the area.
module _ (x : Image) (images : List ImagePlace) (shown : PageList) (placed : ArePlaced (map_of (images_in x.journal images)) x.pages shown)
    (before : AreBefore (length x.journal) images) where
  stands_at : (page : ℕ) → page < length shown → (place : Option ℕ) → place_in images page ≡ place → StandsAt x shown page (source_of place page)
  stands_at page within None is =
      let none = images_none x.journal images page is in
      record {
        within = grind (arith, common_steps, none, placed.no_longer page);
        bytes = placed.pages page within ∙ ap (λ (o : Option (List ℕ)). unwrap_or o (page_at x.pages page)) none;
      }
  stands_at page within (Some place) is = record {
    within = place_before (length x.journal) images page place before is;
    bytes = placed.pages page within ∙ ap (λ (o : Option (List ℕ)). unwrap_or o (page_at x.pages page)) (images_some x.journal images page place is);
  }

  pub all_stand : (page : ℕ) → page < length shown → StandsAt x shown page (source_of (place_in images page) page)
  all_stand page within = stands_at page within (place_in images page) refl

armed_is : (x : Image) (settled : SettledPages) → gate_of x ≡ Armed → settled.area ≡ length x.pages
    → HoldsImages x (images_in x.journal settled.places.items) → AreBefore (length x.journal) settled.places.items
    → settled.last ≡ last_of 0 (homes_in settled.places.items) → IsOf x settled
armed_is x settled armed area held before last =
    let images : ImageList = images_in x.journal settled.places.items in
    let has = armed_has x armed in
    let made = made_pages x.pages has.made in
    let reach = holds_reach held in
    let placed : ArePlaced (map_of images) x.pages (with_images x.pages images) = with_images-placed (length x.pages) 0 images x.pages reach (omega arith) (omega arith) in
    let homes = ap (last_of 0) (homes-images x.journal settled.places.items) in
    record {
      settles = record {
        made = has.made;
        has_gate = has.has_gate;
        settled = inr (has.gate, record { images = images; held = held; placed = placed });
      };
      finds = record {
        end = omega (arith, length-placed (length x.pages) 0 images x.pages reach (omega arith) (omega arith));
        stands = all_stand x settled.places.items (with_images x.pages images) placed before;
      };
    }

-- The places were found on a disk with this image, and with these lengths of its areas.
pub found_is : (x y : Image) (settled : SettledPages) (end : ℕ) → y ≡ x → gate_of x ≡ Armed → settled.area ≡ length x.pages → end ≡ length x.journal
    → HoldsGroups settled.area y.journal 1 0 (images_in y.journal settled.places.items) → AreBefore end settled.places.items
    → settled.last ≡ last_of 0 (homes_in settled.places.items) → IsOf x settled
found_is x y settled end same armed area ends held before last =
    let on_x = subst (λ (z : Image). HoldsGroups settled.area z.journal 1 0 (images_in z.journal settled.places.items)) same held in
    armed_is x settled armed area (subst (λ (n : ℕ). HoldsGroups n x.journal 1 0 (images_in x.journal settled.places.items)) area on_x)
    (subst (λ (n : ℕ). AreBefore n settled.places.items) ends before) last
