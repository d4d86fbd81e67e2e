-- Groups that are read back.
use Rattle.redo_journal.proofs.Common.{common_steps, ◌≡◌, ℕ, zero, suc, ◌+◌, ◌-◌, ◌<◌, ◌≤◌, ◌∙◌, ap, sym, subst, subst₂, refl, Bool, true, false, Some, List, [], ◌∷◌, ◌++◌, length, drop, arith, add-one, length-append, IsSome, slice_get, slice_index_or, All, append-nil, drop-cons, JournalHead, IsRead, PageList, page_at, written_at, ImageList, homes_of, map_of, with_images, AreWritable, homes_in, last_of, behind, images_at, group_at, HeadAt, HoldsGroups, BreaksAt, last_group, more_groups, breaks_later}
use Rattle.redo_journal.specs.Replay.{OfDamaged}
use Rattle.redo_journal.specs.declared.replaying.JournalFault.{JournalFault}
use Rattle.redo_journal.specs.declared.replaying.JournalFault.TheVariants.{Disk, Damaged}
use Rattle.redo_journal.proofs.PlacingLemmas.{length-written, with_images-append, reach_writable}
use Rattle.redo_journal.proofs.GroupLemmas.{homes_at, length-images_at}

pub last_is : (last home : ℕ) (homes : List ℕ) → Some home ≡ slice_get homes (length homes - 1) → home ≡ last_of last homes
last_is last home [] got = absurd cc
last_is last home (first ∷ []) got = cc
last_is last home (first ∷ next ∷ homes) got =
    let shift : length (first ∷ next ∷ homes) - 1 ≡ suc (length (next ∷ homes) - 1) = omega arith in
    last_is first home (next ∷ homes) (got ∙ ap (λ n. slice_get (first ∷ next ∷ homes) n) shift)

pub read_is : (pages : PageList) (page : ℕ) (found : Bool) {buf : List ℕ} → IsRead pages page found buf → found ≡ true → buf ≡ page_at pages page
read_is pages page true h e = h.1
read_is pages page false h e = absurd cc

-- one more image of a group is written home
pub home_restored : (journal before after : PageList) (homes : List ℕ) (at i : ℕ) {buf : List ℕ} → i < length homes → buf ≡ page_at journal (at + i)
    → after ≡ written_at before (slice_index_or homes i 0) buf → AreWritable (length before) (drop i homes)
    → (with_images after (images_at journal (at + (i + 1)) (drop (i + 1) homes)) ≡ with_images before (images_at journal (at + i) (drop i homes)))
    × AreWritable (length after) (drop (i + 1) homes)
home_restored journal before after homes at i {buf} within bytes wrote writable =
    let home : ℕ = slice_index_or homes i 0 in
    let split : drop i homes ≡ home ∷ drop (i + 1) homes = drop-cons homes i 0 within ∙ ap (λ n. home ∷ drop n homes) (sym (add-one i)) in
    let can : AreWritable (length before) (home ∷ drop (i + 1) homes) = subst (AreWritable (length before)) split writable in
    let place : at + (i + 1) ≡ (at + i) + 1 = omega arith in
    (rw (wrote, bytes, split, place) refl, rw (wrote, length-written before home buf can.0) can.1)

-- what holds of a damaged page, weakened
pub damaged_then : (fault : JournalFault) (P Q : ℕ → Type 0) → ((page : ℕ) → P page → Q page) → OfDamaged fault P → OfDamaged fault Q
damaged_then Disk P Q step h = tt
damaged_then (Damaged page) P Q step h = step page h

pub split_none : {len : ℕ} {journal : PageList} {at last : ℕ} {images : ImageList} → HoldsGroups len journal at last images
    → ((head : JournalHead) → HeadAt len journal at last head → ⊥) → ⊥
split_none (last_group head h ended) none = none head h
split_none (more_groups head rest h goes holds) none = none head h

-- The groups behind this one make a body with it.
module _ {len : ℕ} {journal : PageList} {at last next after : ℕ} {head : JournalHead} (h : HeadAt len journal at last head) (more : head.more ≡ true)
    (next_is : next ≡ last_of last (homes_in head)) (after_is : after ≡ behind at head) where
  pub group_holds : {images : ImageList} → HoldsGroups len journal after next images → HoldsGroups len journal at last (group_at journal at head ++ images)
  group_holds {images} holds = more_groups head images h more (subst₂ (λ n l. HoldsGroups len journal n l images) after_is next_is holds)

  pub group_breaks : {page : ℕ} → BreaksAt len journal after next page → BreaksAt len journal at last page
  group_breaks {page} breaks = breaks_later head h more (subst₂ (λ n l. BreaksAt len journal n l page) after_is next_is breaks)

pub length-group : (journal : PageList) (at : ℕ) (head : JournalHead) (images : ImageList)
    → length (group_at journal at head ++ images) ≡ length (homes_in head) + length images
length-group journal at head images = omega (arith, length-append (group_at journal at head) images, length-images_at journal (at + 1) (homes_in head))

among_images : (journal : PageList) (at : ℕ) (homes : List ℕ) (tail : ImageList) (k d : ℕ) → k < length homes
    → IsSome (map_of (images_at journal at homes ++ tail) (slice_index_or homes k d))
among_images journal at [] tail k d within = absurd (omega arith)
among_images journal at (home ∷ homes) tail zero d within = grind (arith, common_steps)
among_images journal at (home ∷ homes) tail (suc k) d within =
    grind (arith, common_steps, among_images journal (at + 1) homes tail k d)

among_tail : (images tail : ImageList) (page : ℕ) → IsSome (map_of tail page) → IsSome (map_of (images ++ tail) page)
among_tail [] tail page some = some
among_tail (image ∷ images) tail page some = grind (arith, common_steps, among_tail images tail page some)

-- The area reaches past the last home once the images are written.
written_reaches : (pages : PageList) (images : ImageList) (last : ℕ) → AreWritable (length pages) (homes_of images) → last < length pages
    → (last_of last (homes_of images) < length (with_images pages images)) × (length pages ≤ length (with_images pages images))
written_reaches pages [] last writable low = (low, omega arith)
written_reaches pages (image ∷ images) last writable low =
    let grown = length-written pages image.0 image.1 writable.0 in
    let rest = written_reaches (written_at pages image.0 image.1) images image.0 (rw grown writable.1) (omega arith) in
    (rest.0, omega (arith, rest.1))

-- A group is written home from an area that reaches to the last home.
pub group_reaches : {len : ℕ} {journal : PageList} {at last : ℕ} {head : JournalHead} (now after : PageList) → HeadAt len journal at last head
    → len ≤ length now → last < length now → after ≡ with_images now (group_at journal at head)
    → (last_of last (homes_in head) < length after) × (length now ≤ length after)
group_reaches {len} {journal} {at} {last} {head} now after h far low wrote =
    let named = homes_at journal (at + 1) (homes_in head) in
    let both = written_reaches now (group_at journal at head) last (rw named (reach_writable len last (length now) (homes_in head) h.reach far low)) low in
    let e = ap (last_of last) named in
    let size = ap length wrote in
    (omega (arith, both.0), omega (arith, both.1))

-- Of a body that holds all these images the ones from this page on are left to be written.
pub record IsRestoring (len : ℕ) (journal start now : PageList) (at last : ℕ) (all : ImageList) : Type 0 where
  pub rest : ImageList
  pub holds : HoldsGroups len journal at last rest
  pub placed : with_images now rest ≡ with_images start all
  pub among : (page : ℕ) → IsSome (map_of rest page) → IsSome (map_of all page)

-- What a body holds whose first head is this one.
module _ {len : ℕ} {journal : PageList} {at last : ℕ} {head : JournalHead} (one : (other : JournalHead) → HeadAt len journal at last other → other ≡ head) where
  first_group : {images : ImageList} → HoldsGroups len journal at last images → (tail : ImageList) × (images ≡ group_at journal at head ++ tail)
  first_group (last_group other h ended) = ([], ap (group_at journal at) (one other h) ∙ sym (append-nil (group_at journal at head)))
  first_group (more_groups other rest h goes holds) = (rest, ap (λ x. group_at journal at x ++ rest) (one other h))

  split_more : {images : ImageList} → HoldsGroups len journal at last images → head.more ≡ true
      → (rest : ImageList) × HoldsGroups len journal (behind at head) (last_of last (homes_in head)) rest × (images ≡ group_at journal at head ++ rest)
  split_more (last_group other h ended) more = let e = one other h in absurd cc
  split_more (more_groups other rest h goes holds) more =
      let e = one other h in (rest, rw e at holds, ap (λ x. group_at journal at x ++ rest) e)

  split_last : {images : ImageList} → HoldsGroups len journal at last images → head.more ≡ false → images ≡ group_at journal at head
  split_last (last_group other h ended) no_more = ap (group_at journal at) (one other h)
  split_last (more_groups other rest h goes holds) no_more = let e = one other h in absurd cc

  module _ {start now : PageList} {all : ImageList} (r : IsRestoring len journal start now at last all) where
    -- Each home of the head belongs to one of the images.
    pub restoring_homes : All (λ home. IsSome (map_of all home)) (homes_in head)
    restoring_homes = λ k d within.
        let parts = first_group r.holds in
        r.among _ (subst (λ s. IsSome (map_of s (slice_index_or (homes_in head) k d))) (sym parts.1) (among_images journal (at + 1) (homes_in head) parts.0 k d within))

    pub restoring_step : {after again : PageList} {next place : ℕ} → next ≡ last_of last (homes_in head) → place ≡ behind at head → head.more ≡ true
        → again ≡ journal → after ≡ with_images now (group_at journal at head) → IsRestoring len again start after place next all
    restoring_step next_is place_is more same wrote =
        let parts = split_more r.holds more in
        let group : ImageList = group_at journal at head in
        record {
          rest = parts.0;
          holds = rw (same, place_is, next_is) parts.1;
          placed = ap (λ p. with_images p parts.0) wrote ∙ (sym (with_images-append now group parts.0) ∙ (ap (with_images now) (sym parts.2) ∙ r.placed));
          among = λ page some. r.among page (subst (λ s. IsSome (map_of s page)) (sym parts.2) (among_tail group parts.0 page some));
        }

    pub restoring_end : {after : PageList} → head.more ≡ false → after ≡ with_images now (group_at journal at head) → after ≡ with_images start all
    restoring_end ended wrote = wrote ∙ (ap (with_images now) (sym (split_last r.holds ended)) ∙ r.placed)
