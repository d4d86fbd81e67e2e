-- The phases of a commit, one after another.
use Rattle.redo_journal.proofs.Common.{common_steps, ◌≡◌, ℕ, ◌∙◌, ap, sym, subst, inl, inr, ◌-◌, ◌<◌, true, false, List, length, refl, arith, IsSome, PageList, Image, Moment, LeavesOnly, LeavesOnly-then, LeavesOnly-weaken, is_open, is_blank, gate_of, Idle, Armed, KeepsGate, DiffersInGate, IsInPlacing, ImageList, homes_of, map_of, with_images, ArePlaced, AreWritable, Ascend, Images, image_map, image_list, HoldsGroups, HoldsImages, HasGate, IsHeld, IsArmed, IsDone, BeforeOrAfter, SettlesTo}
use Rattle.redo_journal.proofs.ImageLemmas.{image_map-is, images_reach}
use Rattle.redo_journal.proofs.PlacingLemmas.{placed-one, with_images-placed, placed-still, reach_writable}
use Rattle.redo_journal.proofs.GroupLemmas.{holds_same, holds_reach, same_still}
use Rattle.redo_journal.proofs.SettledLemmas.{idle_has, armed_has, has_idle, made_pages, body_settles, gate_settles, homes_settle, closing_settles}

pub held_after_body : {images : ImageList} {start x : Image} → HasGate start false → KeepsGate start x
    → HoldsGroups (length start.pages) x.journal 1 0 images → IsHeld images x
held_after_body {images} {x = x} idle kept held = record {
  made = ap is_blank kept.pages ∙ idle.made;
  has_gate = kept.has_gate;
  held = subst (λ p. HoldsGroups (length p) x.journal 1 0 images) (sym kept.pages) held;
}

pub armed_after_gate : {images : ImageList} {between x : Image} → IsHeld images between → DiffersInGate between x → is_open x.journal ≡ true → IsArmed images x
armed_after_gate held only opened =
    let size = ap length only.pages in
    record {
      gate = record { made = ap is_blank only.pages ∙ held.made; has_gate = omega arith; gate = opened };
      held = holds_same held.held only.body (omega arith) (omega arith);
    }

pub armed_writable : {images : ImageList} {x : Image} → IsArmed images x → AreWritable (length x.pages) (homes_of images)
armed_writable {images} {x} h =
    let made = made_pages x.pages h.gate.made in
    reach_writable (length x.pages) 0 (length x.pages) (homes_of images) (holds_reach h.held) (omega arith) (omega arith)

pub armed_placed : {images : ImageList} {x : Image} → IsArmed images x → ArePlaced (map_of images) x.pages (with_images x.pages images)
armed_placed {images} {x} h =
    let made = made_pages x.pages h.gate.made in
    with_images-placed (length x.pages) 0 images x.pages (holds_reach h.held) (omega arith) (omega arith)

-- The images are home, and the gate stands open still.
module _ {images : ImageList} {start : Image} (between : Image) (armed : IsArmed images start) (pages : between.pages ≡ with_images start.pages images) where
  placed_home : ArePlaced (map_of images) start.pages between.pages
  placed_home = subst (ArePlaced (map_of images) start.pages) (sym pages) (armed_placed armed)

  pub done_after_homes : between.journal ≡ start.journal → IsDone images between
  done_after_homes journal =
      let settled : SettlesTo between between.pages = homes_settle armed placed_home (record {
        journal = journal;
        no_shorter = placed_home.no_shorter;
        no_longer = placed_home.no_longer;
        others = λ page within none. grind (arith, common_steps, placed_home.pages page, placed_home.no_shorter);
      }) in
      record {
        made = settled.made;
        has_gate = settled.has_gate;
        held = holds_same armed.held (same_still journal) placed_home.no_shorter (omega arith);
        placed = placed-still placed_home;
      }

  -- The gate was written after that.
  pub brought_home : {x : Image} → DiffersInGate between x → ArePlaced (map_of images) start.pages x.pages
  brought_home only = subst (ArePlaced (map_of images) start.pages) (sym only.pages) placed_home

  pub idle_again : {x : Image} → between.journal ≡ start.journal → DiffersInGate between x → is_open x.journal ≡ false → gate_of x ≡ Idle
  idle_again {x} journal only closed =
      let done = done_after_homes journal in
      has_idle x (record { made = ap is_blank only.pages ∙ done.made; has_gate = omega arith; gate = closed })

  -- The homes, and then the gate.
  pub home_stretch : {after : PageList} {first second third : List Moment} → between.journal ≡ start.journal → ArePlaced (map_of images) start.pages after
      → LeavesOnly (IsInPlacing (map_of images) start) first second → LeavesOnly (DiffersInGate between) second third
      → LeavesOnly (λ x. SettlesTo x after) first third
  home_stretch journal placed f h =
      LeavesOnly-then _ _ _ _ (LeavesOnly-weaken _ _ _ _ (λ x home. homes_settle armed placed home) f)
      (LeavesOnly-weaken _ _ _ _ (λ x only. subst (SettlesTo x) (placed-one placed_home placed) (closing_settles (done_after_homes journal) only)) h)

-- What a crash leaves while the body is written.
pub body_stretch : {start : Image} {after : PageList} {old new : List Moment} → HasGate start false
    → LeavesOnly (KeepsGate start) old new → LeavesOnly (BeforeOrAfter start.pages after) old new
body_stretch idle h = LeavesOnly-weaken _ _ _ _ (λ x kept. inl (body_settles idle kept)) h

-- The body, and then the gate.
pub arm_stretch : {images : ImageList} {after : PageList} {start between : Image} {first second third : List Moment}
    → HasGate start false → KeepsGate start between → IsHeld images between → ArePlaced (map_of images) start.pages after
    → LeavesOnly (KeepsGate start) first second → LeavesOnly (DiffersInGate between) second third
    → LeavesOnly (BeforeOrAfter start.pages after) first third
arm_stretch {images} {after} idle kept held placed f h =
    LeavesOnly-then _ _ _ _ (body_stretch idle f) (LeavesOnly-weaken _ _ _ _
    (λ x only. subst (λ p. BeforeOrAfter p after x) kept.pages
    (gate_settles held (subst (λ p. ArePlaced (map_of images) p after) (sym kept.pages) placed) only)) h)

-- The images are written home.
pub homes_stretch : {images : ImageList} {after : PageList} {start : Image} {old new : List Moment} → IsArmed images start
    → ArePlaced (map_of images) start.pages after → LeavesOnly (IsInPlacing (map_of images) start) old new → LeavesOnly (λ x. SettlesTo x after) old new
homes_stretch armed placed h = LeavesOnly-weaken _ _ _ _ (λ x home. homes_settle armed placed home) h

-- The two halves of a commit.
pub commit_stretch : {after before : PageList} {first second third : List Moment} → LeavesOnly (BeforeOrAfter before after) first second
    → LeavesOnly (λ x. SettlesTo x after) second third → LeavesOnly (BeforeOrAfter before after) first third
commit_stretch f h = LeavesOnly-then _ _ _ _ f (LeavesOnly-weaken _ _ _ _ (λ x s. inr s) h)

-- What an open journal holds, also by the length that was asked for.
pub armed_with : {len : ℕ} {x : Image} {images : ImageList} → HasGate x true → len ≡ length x.pages → HoldsImages x images
    → IsArmed images x × HoldsGroups len x.journal 1 0 images
armed_with gate same held = (record { gate = gate; held = held }, rw same held)

pub open_with : {len : ℕ} {x : Image} {pages : PageList} → HasGate x true → len ≡ length x.pages → SettlesTo x pages
    → (images : ImageList) × IsArmed images x × HoldsGroups len x.journal 1 0 images × ArePlaced (map_of images) x.pages pages
open_with gate same h = elim h.settled [
  | inl closed ↦ absurd cc
  | inr opened ↦ let armed = armed_with gate same opened.1.held in (opened.1.images, armed.0, armed.1, opened.1.placed)
]

pub idle_settles : (x : Image) → gate_of x ≡ Idle → SettlesTo x x.pages
idle_settles x idle = let gate = idle_has x idle in record { made = gate.made; has_gate = gate.has_gate; settled = inl (gate.gate, refl) }

pub armed_settles : (x : Image) (images : ImageList) → gate_of x ≡ Armed → HoldsImages x images → (pages : PageList) × SettlesTo x pages
armed_settles x images is held =
    let gate = armed_has x is in
    let armed : IsArmed images x = record { gate = gate; held = held } in (
      with_images x.pages images,
      record {
        made = gate.made;
        has_gate = gate.has_gate;
        settled = inr (gate.gate, record { images = images; held = held; placed = armed_placed armed });
      },
    )

-- Images that are near an idle disk's pages can be put in their places.
pub images_placed : (images : Images) (x : Image) → gate_of x ≡ Idle → Ascend 0 (homes_of (image_list images))
    → ((page : ℕ) → IsSome (image_map images page) → length x.pages < page → IsSome (image_map images (page - 1)))
    → (pages : PageList) × ArePlaced (image_map images) x.pages pages
images_placed images x idle ascend near =
    let long = made_pages x.pages (idle_has x idle).made in (
      with_images x.pages (image_list images),
      subst (λ m. ArePlaced m x.pages (with_images x.pages (image_list images))) (sym (image_map-is images))
          (with_images-placed (length x.pages) 0 _ x.pages (images_reach images (length x.pages) ascend near) (omega arith) (omega arith)),
    )
