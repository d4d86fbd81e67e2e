-- What holds of an area once images were written to it.
use Rattle.redo_journal.proofs.Common.{rules, ◌≡◌, ◌≢◌, ℕ, ◌+◌, ◌<◌, ◌≤◌, ◌∙◌, sym, refl, inl, inr, None, List, [], ◌∷◌, ◌++◌, length, arith, length-append, IsSome, max, common_steps, length-set, ext_get_or, get_or-set_same, get_or-set_other, get_or_past, get_or_append_left, get_or-append_seam, PageMap, PageList, page_at, written_at, ImageList, homes_of, map_of, ArePlaced, AreInReach, AreWritable, Ascend, with_images}

-- a page that was written
pub written-at : (pages : PageList) (page : ℕ) (bytes : List ℕ) → page ≤ length pages → page_at (written_at pages page bytes) page ≡ bytes
written-at pages page bytes within = grind (arith, common_steps, get_or-append_seam, get_or-set_same)

pub length-written : (pages : PageList) (page : ℕ) (bytes : List ℕ) → page ≤ length pages
    → length (written_at pages page bytes) ≡ max (length pages) (page + 1)
length-written pages page bytes within = grind (arith, common_steps, length-set, length-append)

-- and the others
pub written-other : (pages : PageList) (page : ℕ) (bytes : List ℕ) (p : ℕ) → page ≤ length pages → p ≢ page
    → page_at (written_at pages page bytes) p ≡ page_at pages p
written-other pages page bytes p within other = grind (arith, common_steps, get_or-set_other, get_or_append_left, get_or_past)

-- Homes in reach ascend.
pub reach_ascends : (len last : ℕ) (homes : List ℕ) → AreInReach len last homes → Ascend last homes
reach_ascends len last [] reach = tt
reach_ascends len last (home ∷ homes) reach = (reach.0, reach_ascends len home homes reach.2)

-- Homes that ascend lie above the last one.
pub none_below : (last : ℕ) (images : ImageList) (page : ℕ) → Ascend last (homes_of images) → page ≤ last → map_of images page ≡ None
none_below last [] page ascend low = refl
none_below last (image ∷ images) page ascend low = grind (arith, common_steps, none_below image.0 images page ascend.1)

placed_none : (old : PageList) → ArePlaced (map_of []) old old
placed_none old = search rules

-- One more image is written first.
placed_more : (image : ℕ × List ℕ) (images : ImageList) (old new : PageList) → image.0 ≤ length old → map_of images image.0 ≡ None
    → ArePlaced (map_of images) (written_at old image.0 image.1) new → ArePlaced (map_of (image ∷ images)) old new
placed_more image images old new within once rest = record {
  no_shorter = omega (arith, length-written old image.0 image.1 within);
  reached = λ page some. grind (arith, common_steps, rest.reached page, length-written old image.0 image.1 within);
  no_longer = λ page past below. grind (arith, common_steps, rest.no_longer page, length-written old image.0 image.1 within);
  pages = λ page below.
      grind (arith, common_steps, rest.pages page, written-at old image.0 image.1 within, written-other old image.0 image.1 page within);
}

-- Images that are in reach are in their places once each was written.
pub with_images-placed : (len last : ℕ) (images : ImageList) (pages : PageList) → AreInReach len last (homes_of images)
    → len ≤ length pages → last < length pages → ArePlaced (map_of images) pages (with_images pages images)
with_images-placed len last [] pages reach far low = placed_none pages
with_images-placed len last (image ∷ images) pages reach far low =
    let within : image.0 ≤ length pages = elim reach.1 [ inl h ↦ omega arith | inr h ↦ omega arith ] in
    let grown = length-written pages image.0 image.1 within in
    placed_more image images pages _ within (none_below image.0 images image.0 (reach_ascends len image.0 (homes_of images) reach.2) (omega arith))
    (with_images-placed len image.0 images (written_at pages image.0 image.1) reach.2 (omega arith) (omega arith))

-- Homes in reach can be written in their order.
pub reach_writable : (len last grown : ℕ) (homes : List ℕ) → AreInReach len last homes → len ≤ grown → last < grown → AreWritable grown homes
reach_writable len last grown [] reach far low = tt
reach_writable len last grown (home ∷ homes) reach far low =
    let within : home ≤ grown = elim reach.1 [ inl h ↦ omega arith | inr h ↦ omega arith ] in
    (within, reach_writable len home (max grown (home + 1)) homes reach.2 (omega arith) (omega arith))

pub among_first : (image : ℕ × List ℕ) (images : ImageList) → IsSome (map_of (image ∷ images) image.0)
among_first image images = grind (arith, common_steps)

pub among_rest : (image : ℕ × List ℕ) (images : ImageList) (page : ℕ) → IsSome (map_of images page) → IsSome (map_of (image ∷ images) page)
among_rest image images page some = grind (arith, common_steps)

-- One more image is written home.
pub home_step : (before : PageList) {after done : PageList} {image : ℕ × List ℕ} {images rest : ImageList} → images ≡ image ∷ rest
    → after ≡ written_at before image.0 image.1 → with_images before images ≡ done → AreWritable (length before) (homes_of images)
    → (with_images after rest ≡ done) × AreWritable (length after) (homes_of rest)
home_step before {image = image} is wrote placed writable =
    let can = rw is at writable in (rw wrote (rw is at placed), rw (wrote, length-written before image.0 image.1 can.0) can.1)

pub among_step : (all : PageMap) {image : ℕ × List ℕ} {images rest : ImageList} → images ≡ image ∷ rest
    → ((page : ℕ) → IsSome (map_of images page) → IsSome (all page)) → IsSome (all image.0) × ((page : ℕ) → IsSome (map_of rest page) → IsSome (all page))
among_step all {image = image} {rest = rest} is among =
    let has = rw is at among in (has image.0 (among_first image rest), λ page some. has page (among_rest image rest page some))

-- images one after another
pub with_images-append : (pages : PageList) (front back : ImageList) → with_images pages (front ++ back) ≡ with_images (with_images pages front) back
with_images-append pages [] back = refl
with_images-append pages (image ∷ front) back = with_images-append (written_at pages image.0 image.1) front back

not_past : {images : PageMap} {old new other : PageList} → ArePlaced images old new → ArePlaced images old other → length other ≤ length new
not_past {new = new} a b = grind (arith, a.reached (length new), b.no_longer (length new))

-- There is one area with the images in their places.
pub placed-one : {images : PageMap} {old new other : PageList} → ArePlaced images old new → ArePlaced images old other → new ≡ other
placed-one {new = new} {other = other} a b =
    let low = not_past a b in
    let high = not_past b a in
    ext_get_or [] new other (omega arith) (λ i within. a.pages i (omega arith) ∙ sym (b.pages i (omega arith)))

-- Images that are written to some of the places again, from an area on the way.
pub placed-again : {images : PageMap} {old between new : PageList} → ArePlaced images old new
    → length old ≤ length between
    → ((page : ℕ) → length old ≤ page → page < length between → IsSome (images page))
    → ((page : ℕ) → page < length old → images page ≡ None → page_at between page ≡ page_at old page)
    → ArePlaced images between new
placed-again {images} {old} {between} {new} placed longer only others = record {
  no_shorter = grind (arith, placed.reached (length new), only (length new));
  reached = placed.reached;
  no_longer = λ page past within. placed.no_longer page (omega arith) within;
  pages = λ page within. grind (arith, common_steps, placed.pages page, others page, placed.no_longer page);
}

pub placed-still : {images : PageMap} {old new : PageList} → ArePlaced images old new → ArePlaced images new new
placed-still placed = placed-again placed placed.no_shorter placed.no_longer (λ page low none. grind (arith, common_steps, placed.pages page))
