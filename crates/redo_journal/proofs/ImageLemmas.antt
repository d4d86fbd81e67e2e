-- The images in their boxes, as a map, and as the list of its entries.
use Rattle.redo_journal.proofs.Common.{◌≡◌, ℕ, ◌-◌, ◌<◌, ◌≤◌, subst, inr, ◌⊎◌, [], ◌∷◌, List, length, arith, IsSome, AllByRecursion, IsStrictlySortedBy, nat_cmp, Less, common_steps, sorted_head, sorted_tail, PageMap, Images, image_map, image_list, PageList, ImageList, homes_of, map_of, Ascend, AreInReach, ArePlaced, ap, refl, ◌+◌, true, None, Box, IsTrue, nat_lt, list_all, All, and_parts, unboxed, in_box, ascends}
use Rattle.redo_journal.proofs.PlacingLemmas.{none_below, among_first, among_rest}
use Rattle.std.proofs.lemmas.Bool.{ltb-true}
use Rattle.std.proofs.lemmas.List.Elements.{All-nil, All-cons}
use Rattle.std.specs.Map.{lookup, keys_of}
use Rattle.std.specs.BTreeMap.{is_at}
use Rattle.std.specs.declared.alloc.Global.{Global}

abbrev pub BoxList : Type 0
BoxList = List (ℕ × Box (List ℕ) Global)

pub map_in_boxes : (images : BoxList) (page : ℕ) → in_box (lookup (is_at (nat_cmp page)) images) ≡ map_of (unboxed images) page
map_in_boxes [] page = refl
map_in_boxes (image ∷ images) page = grind (arith, common_steps, map_in_boxes images page)

pub keys_in_boxes : (images : BoxList) → keys_of images ≡ homes_of (unboxed images)
keys_in_boxes [] = refl
keys_in_boxes (image ∷ images) = ap (λ s. image.0 ∷ s) (keys_in_boxes images)

all_above : (home : ℕ) (homes : List ℕ) → AllByRecursion (λ y. nat_cmp home y ≡ Less) homes → list_all (λ next. nat_lt home next) homes ≡ true
all_above home [] all = refl
all_above home (next ∷ homes) all = grind (arith, common_steps, all_above home homes all.1)

sorted_ascends : (homes : List ℕ) → IsStrictlySortedBy nat_cmp homes → ascends homes ≡ true
sorted_ascends [] sorted = refl
sorted_ascends (home ∷ homes) sorted =
    grind (arith, common_steps, all_above home homes (sorted_head nat_cmp home homes sorted), sorted_ascends homes (sorted_tail nat_cmp home homes sorted))

none_of_above : (home : ℕ) (images : ImageList) → list_all (λ next. nat_lt home next) (homes_of images) ≡ true → map_of images home ≡ None
none_of_above home [] above = refl
none_of_above home (image ∷ images) above = grind (arith, common_steps, none_of_above home images)

pub boxes_ascend : (images : BoxList) → IsStrictlySortedBy nat_cmp (keys_of images) → IsTrue (ascends (homes_of (unboxed images)))
boxes_ascend images sorted = sorted_ascends (homes_of (unboxed images)) (subst (IsStrictlySortedBy nat_cmp) (keys_in_boxes images) sorted)

pub once_in_boxes : {images rest : BoxList} {image : ℕ × Box (List ℕ) Global} → images ≡ image ∷ rest
    → IsTrue (ascends (homes_of (unboxed images))) → map_of (unboxed rest) image.0 ≡ None
once_in_boxes {rest = rest} {image = image} is ascend = none_of_above image.0 (unboxed rest) (and_parts _ _ (rw is at ascend)).0

-- What ascends is above the first of it.
above_all : (home : ℕ) (homes : List ℕ) → list_all (λ next. nat_lt home next) homes ≡ true → All (λ next. home < next) homes
above_all home [] above = All-nil (λ next. home < next)
above_all home (next ∷ homes) above =
    let parts = and_parts (nat_lt home next) (list_all (λ x. nat_lt home x) homes) above in
    All-cons (λ x. home < x) next homes (ltb-true home next parts.0) (above_all home homes parts.1)

pub above_in_boxes : {images rest : BoxList} {image : ℕ × Box (List ℕ) Global} → images ≡ image ∷ rest
    → IsTrue (ascends (homes_of (unboxed images))) → All (λ home. image.0 < home) (homes_of (unboxed rest))
above_in_boxes {rest = rest} {image = image} is ascend = above_all image.0 (homes_of (unboxed rest)) (and_parts _ _ (rw is at ascend)).0

pub length-unboxed : (images : BoxList) → length (unboxed images) ≡ length images
length-unboxed [] = refl
length-unboxed (image ∷ images) = omega (arith, length-unboxed images)

-- There is at most one image more where there is at most one box more.
pub one_more : (old new : BoxList) → length new ≤ length old + 1 → length (unboxed new) ≤ length (unboxed old) + 1
one_more old new more = omega (arith, length-unboxed old, length-unboxed new)

pub image_map-is : (images : Images) → image_map images ≡ map_of (image_list images)
image_map-is images = λ i page. map_in_boxes images.pages.entries page i

ascend_from : (last : ℕ) (homes : List ℕ) → IsStrictlySortedBy nat_cmp homes → AllByRecursion (λ y. nat_cmp last y ≡ Less) homes → Ascend last homes
ascend_from last [] sorted above = tt
ascend_from last (home ∷ homes) sorted above =
    (grind (arith, common_steps, above.0), ascend_from home homes (sorted_tail nat_cmp home homes sorted) (sorted_head nat_cmp home homes sorted))

list_ascends : (images : ImageList) → IsStrictlySortedBy nat_cmp (homes_of images) → ((page : ℕ) → IsSome (map_of images page) → 1 ≤ page)
    → Ascend 0 (homes_of images)
list_ascends [] sorted homes = tt
list_ascends (image ∷ images) sorted homes = (
  homes image.0 (among_first image images),
  ascend_from image.0 (homes_of images) (sorted_tail nat_cmp image.0 (homes_of images) sorted) (sorted_head nat_cmp image.0 (homes_of images) sorted),
)

-- The keys of a map of images ascend.
pub images_ascend : (images : Images) → IsStrictlySortedBy nat_cmp (homes_of (image_list images))
    → ((page : ℕ) → IsSome (image_map images page) → 1 ≤ page) → Ascend 0 (homes_of (image_list images))
images_ascend images sorted homes =
    list_ascends (image_list images) sorted (subst (λ m. (page : ℕ) → IsSome (m page) → 1 ≤ page) (image_map-is images) homes)

reach_from : (len : ℕ) (all : PageMap) (last : ℕ) (images : ImageList) → Ascend last (homes_of images)
    → ((page : ℕ) → IsSome (map_of images page) → len < page → IsSome (all (page - 1)))
    → ((page : ℕ) → IsSome (all page) → (page ≤ last) ⊎ IsSome (map_of images page)) → AreInReach len last (homes_of images)
reach_from len all last [] ascend near known = tt
reach_from len all last (image ∷ images) ascend near known =
    let above : last < image.0 = ascend.0 in
    let before = none_below image.0 images (image.0 - 1) ascend.1 in (
      above,
      grind (arith, common_steps, near image.0 (among_first image images), known (image.0 - 1), before),
      reach_from len all image.0 images ascend.1 (λ page some past. near page (among_rest image images page some) past)
          (λ page some. grind (arith, common_steps, known page some)),
    )

-- Each home past the end follows another one, so all are in reach.
pub images_reach : (images : Images) (len : ℕ) → Ascend 0 (homes_of (image_list images))
    → ((page : ℕ) → IsSome (image_map images page) → len < page → IsSome (image_map images (page - 1)))
    → AreInReach len 0 (homes_of (image_list images))
images_reach images len ascend near =
    reach_from len (map_of (image_list images)) 0 (image_list images) ascend
    (subst (λ m. (page : ℕ) → IsSome (m page) → len < page → IsSome (m (page - 1))) (image_map-is images) near) (λ page some. inr some)

some_image : (images : ImageList) (page : ℕ) → IsSome (map_of images page) → 0 < length images
some_image [] page some = absurd cc
some_image (image ∷ images) page some = omega arith

pub images_some : (images : Images) → (page : ℕ) × IsSome (image_map images page) → 0 < length (image_list images)
images_some images some = some_image (image_list images) some.0 (subst (λ m. IsSome (m some.0)) (image_map-is images) some.1)

pub in_list : (images : Images) {before after : PageList} → ArePlaced (image_map images) before after → ArePlaced (map_of (image_list images)) before after
in_list images {before} {after} placed = subst (λ m. ArePlaced m before after) (image_map-is images) placed
