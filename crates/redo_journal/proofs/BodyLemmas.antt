-- Pages that are written in a row, and the groups that they make.
use Rattle.redo_journal.proofs.Common.{◌≡◌, ℕ, zero, suc, ◌+◌, ◌-◌, ◌<◌, ◌≤◌, ◌∙◌, ap, sym, subst, refl, Bool, List, [], ◌∷◌, ◌++◌, length, take, drop, arith, add-one, IsTrue, max, nat_lt, slice_index_or, lt-ltb, common_steps, length-take, length-drop, take-append-drop, append-nil, IsHead, IsTyped, head_page, JournalHead, PageList, Image, page_at, with_area, written_at, KeepsGate, Journal, ImageList, homes_of, bytes_of, with_row, Ascend, AreInReach, homes_in, last_of, behind, images_at, group_at, HeadAt, HoldsGroups, last_group, more_groups}
use Rattle.page_layout.specs.Entries.{AreInOrder}
use Rattle.redo_journal.proofs.PlacingLemmas.{length-written, written-at, written-other}

-- One more of the images is written.
pub row_step : (start : PageList) (at i count : ℕ) {now done : PageList} {image : ℕ × List ℕ} {images rest : ImageList}
    → images ≡ image ∷ rest → i < count → now ≡ written_at start (at + i) image.1
    → with_row start (at + i) (bytes_of (take (count - i) images)) ≡ done
    → with_row now (at + (i + 1)) (bytes_of (take (count - (i + 1)) rest)) ≡ done
row_step start at i count is low wrote all =
    let one : count - i ≡ suc (count - (i + 1)) = omega arith in
    let next : at + (i + 1) ≡ (at + i) + 1 = omega arith in
    rw (wrote, next) (rw (one, is) at all)

pub drop_step : {X : Type 0} (i count : ℕ) {x : X} {xs rest done : List X} → xs ≡ x ∷ rest → i < count → drop (count - i) xs ≡ done
    → drop (count - (i + 1)) rest ≡ done
drop_step i count is low all = let one : count - i ≡ suc (count - (i + 1)) = omega arith in rw (one, is) at all

-- a row that begins at most at the end reaches this far
pub length-row : (pages : PageList) (at : ℕ) (row : PageList) → at ≤ length pages → length (with_row pages at row) ≡ max (length pages) (at + length row)
length-row pages at [] within = omega arith
length-row pages at (bytes ∷ row) within =
    let grown = length-written pages at bytes within in
    omega (arith, length-row (written_at pages at bytes) (at + 1) row (omega arith))

-- and leaves what stands before it
pub row-before : (pages : PageList) (at : ℕ) (row : PageList) (page : ℕ) → at ≤ length pages → page < at
    → page_at (with_row pages at row) page ≡ page_at pages page
row-before pages at [] page within low = refl
row-before pages at (bytes ∷ row) page within low =
    let grown = length-written pages at bytes within in
    row-before (written_at pages at bytes) (at + 1) row page (omega arith) (omega arith)
    ∙ written-other pages at bytes page within (λ e. omega arith)

row-first : (pages : PageList) (at : ℕ) (bytes : List ℕ) (row : PageList) → at ≤ length pages → page_at (with_row pages at (bytes ∷ row)) at ≡ bytes
row-first pages at bytes row within =
    let grown = length-written pages at bytes within in
    row-before (written_at pages at bytes) (at + 1) row at (omega arith) (omega arith) ∙ written-at pages at bytes within

-- the areas agree up to this page
abbrev pub SameFront : ℕ → PageList → PageList → Type 0
SameFront end old new = (page : ℕ) → page < end → page_at new page ≡ page_at old page

-- the images that stand in a row
images-row : (pages x : PageList) (at : ℕ) (images : ImageList) → at ≤ length pages
    → SameFront (at + length images) (with_row pages at (bytes_of images)) x → images_at x at (homes_of images) ≡ images
images-row pages x at [] within same = refl
images-row pages x at (image ∷ images) within same =
    let grown = length-written pages at image.1 within in
    let here = same at (omega arith) ∙ row-first pages at image.1 (bytes_of images) within in
    let rest = images-row (written_at pages at image.1) x (at + 1) images (omega arith) (λ page low. same page (omega arith)) in
    rw (here, rest) refl

-- Parts of a list of images.
pub take-homes : (n : ℕ) (images : ImageList) → take n (homes_of images) ≡ homes_of (take n images)
take-homes zero images = refl
take-homes (suc n) [] = refl
take-homes (suc n) (image ∷ images) = ap (λ s. image.0 ∷ s) (take-homes n images)

pub length-homes : (images : ImageList) → length (homes_of images) ≡ length images
length-homes [] = refl
length-homes (image ∷ images) = omega (arith, length-homes images)

pub length-bytes : (images : ImageList) → length (bytes_of images) ≡ length images
length-bytes [] = refl
length-bytes (image ∷ images) = omega (arith, length-bytes images)

cut-ascend : (n last : ℕ) (images : ImageList) → Ascend last (homes_of images)
    → Ascend last (homes_of (take n images)) × Ascend (last_of last (homes_of (take n images))) (homes_of (drop n images))
cut-ascend zero last images h = (tt, h)
cut-ascend (suc n) last [] h = (tt, tt)
cut-ascend (suc n) last (image ∷ images) h = let parts = cut-ascend n image.0 images h.1 in ((h.0, parts.0), parts.1)

cut-reach : (len n last : ℕ) (images : ImageList) → AreInReach len last (homes_of images)
    → AreInReach len last (homes_of (take n images)) × AreInReach len (last_of last (homes_of (take n images))) (homes_of (drop n images))
cut-reach len zero last images h = (tt, h)
cut-reach len (suc n) last [] h = (tt, tt)
cut-reach len (suc n) last (image ∷ images) h = let parts = cut-reach len n image.0 images h.2 in ((h.0, h.1, parts.0), parts.1)

-- Homes that ascend are those that a head may name.
ascend-low : (last : ℕ) (homes : List ℕ) (k d : ℕ) → Ascend last homes → k < length homes → last < slice_index_or homes k d
ascend-low last [] k d h within = absurd (omega arith)
ascend-low last (home ∷ homes) zero d h within = h.0
ascend-low last (home ∷ homes) (suc k) d h within = omega (arith, h.0, ascend-low home homes k d h.1 (omega arith))

ascend-next : (last : ℕ) (homes : List ℕ) (k d : ℕ) → Ascend last homes → k + 1 < length homes → slice_index_or homes k d < slice_index_or homes (suc k) d
ascend-next last [] k d h within = absurd (omega arith)
ascend-next last (home ∷ homes) zero d h within = ascend-low home homes 0 d h.1 (omega arith)
ascend-next last (home ∷ homes) (suc k) d h within = ascend-next home homes k d h.1 (omega arith)

ascend-order : (last : ℕ) (homes : List ℕ) → Ascend last homes → AreInOrder (λ home. 1 ≤ home) (λ home next. home < next) homes
ascend-order last homes h = record {
  each = λ k d within. omega (arith, ascend-low last homes k d h within);
  order = λ k d within. rw add-one (ascend-next last homes k d h within);
}

-- What the journal still has to hold from this page on: the groups of the images that are left.
abbrev pub HoldsRest : ℕ → PageList → ℕ → ℕ → ImageList → Type 0
HoldsRest len journal at last images = (at ≤ length journal) × (0 < length images → HoldsGroups len journal at last images)

-- Groups are being written: whatever holds the groups that are left, and what was written, holds all.
pub record WritesGroups (t : Bool) (all : ImageList) (journal : PageList) (at : ℕ) (images : ImageList) : Type 0 where
  pub last : ℕ
  pub ascend : Ascend last (homes_of images)
  pub held : IsTrue t → (len : ℕ) → AreInReach len 0 (homes_of all) → AreInReach len last (homes_of images)
      × ((x : PageList) → SameFront at journal x → HoldsRest len x at last images → HoldsRest len x 1 0 all)

-- The head of a group of these images.
pub record IsHeadOf (head : JournalHead) (images : ImageList) (more : Bool) : Type 0 where
  pub names : homes_in head ≡ homes_of images
  pub says : head.more ≡ more
  pub rules : IsHead head
  pub typed : IsTyped head

ends_or_goes_on : {len : ℕ} {journal : PageList} {at last : ℕ} {head : JournalHead} (images : ImageList) → HeadAt len journal at last head
    → head.more ≡ nat_lt 0 (length images) → HoldsRest len journal (behind at head) (last_of last (homes_in head)) images
    → HoldsGroups len journal at last (group_at journal at head ++ images)
ends_or_goes_on [] h says rest = rw append-nil (last_group _ h says)
ends_or_goes_on (image ∷ images) h says rest = more_groups _ (image ∷ images) h (says ∙ lt-ltb 0 (length (image ∷ images)) (omega arith)) (rest.1 (omega arith))

group_then : (len : ℕ) (journal x : PageList) (at last : ℕ) (head : JournalHead) (group images : ImageList)
    → IsHeadOf head group (nat_lt 0 (length images)) → at ≤ length journal → AreInReach len last (homes_of group)
    → SameFront (at + 1 + length group) (with_row journal at (head_page head ∷ bytes_of group)) x
    → HoldsRest len x (at + 1 + length group) (last_of last (homes_of group)) images → HoldsGroups len x at last (group ++ images)
group_then len journal x at last head group images is room reach same rest =
    let grown = length-written journal at (head_page head) room in
    let size = ap length is.names ∙ length-homes group in
    let here : HeadAt len x at last head = record {
      rules = is.rules;
      typed = is.typed;
      spelled = same at (omega arith) ∙ row-first journal at (head_page head) (bytes_of group) room;
      within = omega (arith, rest.0);
      reach = subst (AreInReach len last) (sym is.names) reach;
    } in
    let held : group_at x at head ≡ group =
    ap (images_at x (at + 1)) is.names ∙ images-row (written_at journal at (head_page head)) x (at + 1) group (omega arith) same in
    subst (λ s. HoldsGroups len x at last (s ++ images)) held (ends_or_goes_on images here is.says (rw (is.names, length-homes) rest))

-- One more group is written.
pub groups_step : {t : Bool} {all : ImageList} {journal : PageList} {at : ℕ} {images : ImageList} → WritesGroups t all journal at images
    → {after : PageList} {rest : ImageList} (count : ℕ) {head : JournalHead} → 0 < count → count ≤ length images
    → IsHeadOf head (take count images) (nat_lt 0 (length (drop count images)))
    → (IsTrue t → at ≤ length journal) → (IsTrue t → after ≡ with_row journal at (head_page head ∷ bytes_of (take count images)))
    → rest ≡ drop count images → WritesGroups t all after (at + (1 + count)) rest
groups_step {t} {all} {journal} {at} {images} written {after} count {head} some within is room wrote rest_is =
    let front : ImageList = take count images in
    let back : ImageList = drop count images in
    let size : at + (1 + count) ≡ at + 1 + length front = omega (arith, length-take count images) in
    let last : ℕ = written.last in
    let next : ℕ = last_of last (homes_of front) in
    rw (rest_is, size) (record {
      last = next;
      ascend = (cut-ascend count last images written.ascend).1;
      held = λ told len reach.
          let before = written.held told len reach in
          let reaches = cut-reach len count last images before.0 in (
            reaches.1,
            λ x same rest.
                let same_row : SameFront (at + 1 + length front) (with_row journal at (head_page head ∷ bytes_of front)) x =
                λ page low. same page low ∙ ap (λ p. page_at p page) (wrote told) in
                before.1 x (λ page low. same_row page (omega arith) ∙ row-before journal at (head_page head ∷ bytes_of front) page (room told) low) (
                  omega (arith, rest.0),
                  λ left. subst (HoldsGroups len x at last) (take-append-drop count images)
                      (group_then len journal x at last head front back is (room told) reaches.0 same_row rest),
                ),
          );
    })

-- All groups are written.
pub groups_done : {t : Bool} {all : ImageList} {journal : PageList} {at : ℕ} {left : ImageList} → WritesGroups t all journal at left
    → length left ≤ 0 → IsTrue t → at ≤ length journal → 0 < length all → (len : ℕ) → AreInReach len 0 (homes_of all) → HoldsGroups len journal 1 0 all
groups_done {journal = journal} written none told within some len reach =
    ((written.held told len reach).1 journal (λ page low. refl) (within, λ left. absurd (omega arith))).1 some

-- More are left exactly where there are more than these.
pub more_left : (count left : ℕ) (images : ImageList) → left ≡ length images → nat_lt count left ≡ nat_lt 0 (length (drop count images))
more_left count left images size = grind (arith, common_steps, length-drop count images)

pub head_is : {t : Bool} {all : ImageList} {journal : PageList} {at : ℕ} {images : ImageList} → WritesGroups t all journal at images
    → (count : ℕ) {head : JournalHead} {more : Bool} → 0 < count → count ≤ 500 → count ≤ length images
    → homes_in head ≡ take count (homes_of images) → IsTyped head → head.more ≡ more → IsHeadOf head (take count images) more
head_is {images = images} written count {head} some few within names typed says =
    let named : homes_in head ≡ homes_of (take count images) = names ∙ take-homes count images in
    let size = ap length named ∙ length-homes (take count images) in
    let taken = length-take count images in
    record {
      names = named;
      says = says;
      rules = record {
        some = omega arith;
        few = omega arith;
        homes = ascend-order written.last (homes_in head) (rw named (cut-ascend count written.last images written.ascend).0);
      };
      typed = typed;
    }

-- A head and then its images are one row.
pub row_of : (old new : Image) {between : Image} (at : ℕ) {page first : List ℕ} (row : PageList) → page ≡ first
    → between ≡ with_area Journal (written_at old.journal at page) old → new.journal ≡ with_row between.journal (at + 1) row
    → new.journal ≡ with_row old.journal at (first ∷ row)
row_of old new at row is wrote more = rw (more, wrote, is) refl

pub kept_row : {start now after : Image} (at : ℕ) (row : PageList) → KeepsGate start now → 1 ≤ at → at ≤ length now.journal
    → after.pages ≡ now.pages → after.journal ≡ with_row now.journal at row → KeepsGate start after
kept_row {now = now} at row kept behind within pages journal =
    let size = length-row now.journal at row within in
    let grown = ap length journal in
    record {
      pages = pages ∙ kept.pages;
      has_gate = omega arith;
      gate = rw (journal, row-before now.journal at row 0 within (omega arith)) kept.gate;
    }
